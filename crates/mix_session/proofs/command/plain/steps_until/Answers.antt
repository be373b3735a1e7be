-- The steps that were done again and again are plain ones, of which the first was seen to be.
use Rattle.std.proofs.Common.{◌∙◌, sym}
use Rattle.mix_machine.specs.Many.{ends_at}
use Rattle.mix_session.proofs.PlainLemmas.{plain-repeats, steps-left}
use Rattle.mix_session.proofs.command.plain.steps_until.Goals as goal

pub returns-clause-plain : goal.returns-clause-plain
returns-clause-plain c =
    let many = c.go_many-done.ensures in
    let did = many.did c.state.result.now c.state.ensures in
    plain-repeats (ends_at c.args.many.now) c.go_many-done.result.0 c.args.journal.now c.go_many-done.new.self c.state.result.now did.0 did.1 c.state.ensures
    (λ some. sym c.next_is_plain.ensures ∙ c.if-not-next_is_plain.false) did.2 many.first many.changes many.none many.ahead

pub returns-in-Err-clause-plain : goal.returns-in-Err-clause-plain
returns-in-Err-clause-plain c =
    let many = c.go_many-done.ensures in
    let did = many.did c.state.result.now c.state.ensures in
    plain-repeats (ends_at c.args.many.now) c.go_many-done.result.0 c.args.journal.now c.go_many-done.new.self c.state.result.now did.0 did.1 c.state.ensures
    (λ some. sym c.next_is_plain.ensures ∙ c.if-not-next_is_plain.false) did.2 many.first many.changes many.none many.ahead

pub returns-in-Err-clause-left : goal.returns-in-Err-clause-left
returns-in-Err-clause-left c =
    let many = c.go_many-done.ensures in
    let did = many.did c.state.result.now c.state.ensures in
    rw c.in-Err.is at (steps-left (ends_at c.args.many.now) c.go_many-done.result.0 c.args.most c.go_many-done.new.self did.0 c.go_many-done.result.1 c.unless_fault.result did.3
    many.going many.last c.unless_fault.ensures.memory c.unless_fault.ensures.more)

-- The dialogue goes on over the messages, and what it sends stands behind what waits.
use Rattle.std.proofs.Common.{ap, sym, ◌∙◌}
use Rattle.page.proofs.EngineLemmas.{asks-as, asks-none}
use Rattle.page.proofs.engine.Engine.ask.Goals as goal

pub returns-then-is_empty : goal.returns-then-is_empty
returns-then-is_empty c = asks-none c.args.self.now c.args.messages.now (sym c.is_empty.ensures ∙ c.if-is_empty.true)

pub returns : goal.returns
returns c =
    asks-as c.args.self.now c.go_on-asked.result c.self.inside.dialogue c.go_on-asked.new.self c.args.messages.now c.of-client.result.inner.now
    c.go_on-asked.new.input.inner.now c.of-sent.result.inner.items c.go_on-asked.new.out.inner.items c.go_on-asked.ensures.dialogue
    (ap (λ v. v.reached) c.self.view_is) (ap (λ b. b.now) c.of-client.ensures.inner)
    (ap (λ v. v.items) (c.of-sent.ensures.inner ∙ c.replace.ensures.value) ∙ ap (λ v. v.unread) c.self.view_is)

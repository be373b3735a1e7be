-- Words that are not copied over before they are copied are copied at once.
use Rattle.std.proofs.Common.{◌≡◌, ◌+◌, ◌≤◌, ◌∙◌, sym, arith}
use Rattle.std.proofs.lemmas.Bool.Decides.{nat_tests}
use Rattle.std.specs.List.{copy_within}
use Rattle.mix_machine.specs.Cells.{with_copies}
use Rattle.mix_machine.proofs.CopyLemmas.{copied-down, copied-past}
use Rattle.mix_machine.proofs.cells.copy_words.Goals.{then-to-from, else-to-from}
use Rattle.mix_machine.proofs.cells.copy_words.Goals as goal

pub returns-then-from-count-clause-is : goal.returns-then-from-count-clause-is
returns-then-from-count-clause-is c =
    let cells = c.args.cells.now in
    let count = c.args.count in
    let from = c.args.from in
    let to = c.args.to in
    let once : with_copies count from to cells ≡ copy_within cells from (from + count) to = elim c.if-to-from.branch [
      | then-to-from w ↦ copied-down count from to cells c.requires.there (omega (arith, w.if-to-from))
      | else-to-from w ↦ copied-past count from to cells c.requires.into (let past : from + count ≤ to = grind (arith, nat_tests) in past)
    ] in
    c.copy_within.ensures.after ∙ sym once

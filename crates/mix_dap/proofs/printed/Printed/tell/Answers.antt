-- One unit after the other.
use Rattle.mix_dap.proofs.EventLemmas.{adds-then-four}
use Rattle.mix_dap.proofs.printed.Printed.tell.Goals as goal

pub returns-clause-prints : goal.returns-clause-prints
returns-clause-prints c =
    let one = rw c.unit_at.ensures at c.in_ok-card_punch.ensures.prints in
    let two = rw c.unit_at-2.ensures at c.in_ok-printer.ensures.prints in
    let three = rw c.unit_at-3.ensures at c.in_ok-typewriter.ensures.prints in
    let four = rw c.unit_at-4.ensures at c.in_ok-paper_tape.ensures.prints in
    adds-then-four _ _ _ _ _ _ _ _ _ one two three four

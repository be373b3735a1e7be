use Rattle.std.proofs.Common.{◌≡◌, ◌++◌}
use Rattle.mixal_asm.specs.Listing.{blanks}
use Rattle.mixal_asm.proofs.listing.add_blanks.Given as goal

abbrev pub invariant-loop-i : goal.invariant-loop-i
invariant-loop-i l = l.text.items ≡ l.initial.text.items ++ blanks l._i

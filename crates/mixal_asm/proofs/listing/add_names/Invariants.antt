use Rattle.std.proofs.Common.{◌≡◌, ◌++◌}
use Rattle.mixal_asm.specs.Listing.{names_text}
use Rattle.mixal_asm.proofs.listing.add_names.Given as goal

abbrev pub invariant-loop-key : goal.invariant-loop-key
invariant-loop-key l = l.text.items ++ names_text l.key-iterator ≡ l.initial.text.items ++ names_text l.initial.names

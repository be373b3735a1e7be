use Rattle.std.proofs.Common.{◌≡◌, ◌+◌, ◌≤◌, length}
use Rattle.std.specs.Prelude.{option_copied}
use Rattle.mixal_text.specs.Prelude.{is_comma, w_value_of, pieces_of, length_with_one}
use Rattle.mixal_text.proofs.WValueLemmas.{left_of}
use Rattle.mixal_text.proofs.w_values.w_value.Given as goal

abbrev pub invariant-loop-rest : goal.invariant-loop-rest
invariant-loop-rest g l =
    (w_value_of (g.N.Names.names l.names) l.here l.text ≡ left_of (g.N.Names.names l.names) l.here (length l.text) l.word (option_copied l.rest)) × (length_with_one (option_copied l.rest) ≤ length l.text + 1)

abbrev pub decreases-loop-rest : goal.decreases-loop-rest
decreases-loop-rest g l = length (pieces_of is_comma (option_copied l.rest))

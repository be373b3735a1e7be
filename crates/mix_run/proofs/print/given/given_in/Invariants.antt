use Rattle.std.proofs.Common.{◌≡◌, length}
use Rattle.std.specs.List.{slice_split}
use Rattle.std.specs.Prelude.{option_copied}
use Rattle.mix_formula.specs.Names.{all_named}
use Rattle.mix_views.specs.Analysis.{given_in, given_onto}
use Rattle.mixal_text.specs.Prelude.{is_comma, pieces_of}
use Rattle.mix_run.proofs.print.given.given_in.Given as goal

-- what is given so far, and by the pieces that are left, is all that is given
abbrev pub invariant-loop-rest : goal.invariant-loop-rest
invariant-loop-rest l =
    given_onto (all_named l.given.items) (given_in (pieces_of is_comma (option_copied l.rest))) ≡ given_in (slice_split is_comma l.text)

abbrev pub decreases-loop-rest : goal.decreases-loop-rest
decreases-loop-rest l = length (pieces_of is_comma (option_copied l.rest))

-- Conditions say how they are kept.
use Rattle.std.specs.Prelude.{◌≡◌, ℕ, List, ◌++◌, length, take}
use Rattle.std.proofs.Common.{arith, sym, ap, ◌∙◌}
use Rattle.std.proofs.lemmas.List.{take-append-drop, length-take-le}
use Rattle.mix_session.specs.Conditions.{unused, places_of, AreKept}
use Rattle.mix_session.specs.declared.condition.Condition.{Condition}

pub used_length : (places : List Condition) (count : ℕ) → AreKept places count → length (take count places) ≡ count
used_length places count kept = length-take-le count places (omega (arith, kept.within, kept.all))

pub used_places : (places : List Condition) (count : ℕ) → AreKept places count → places_of (take count places) ≡ places
used_places places count kept =
    ap (λ n. take count places ++ unused n) (used_length places count kept) ∙ ap (λ rest. take count places ++ rest) (sym kept.others)
    ∙ take-append-drop count places

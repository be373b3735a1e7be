-- One condition more is kept after the others.
use Rattle.std.proofs.Common.{◌≡◌, ◌+◌, ◌-◌, ◌<◌, ◌∙◌, ℕ, List, length, take, drop, replicate, set, ap, sym, arith, drop-drop, drop-set-lt, length-set}
use Rattle.std.proofs.lemmas.List.{drop-replicate}
use Rattle.mix_machine.specs.declared.part.Part.TheVariants.{Clock}
use Rattle.mix_session.specs.Conditions.{most_conditions, AreKept}
use Rattle.mix_session.specs.law.Conditions.{used_length}
use Rattle.mix_session.specs.Prelude.{Condition, Alters}

-- there is room for one more
room : (places : List Condition) (count : ℕ) → AreKept places count → length (take count places) < most_conditions → count < 8
room places count kept below = omega (arith, used_length places count kept, below)

pub kept-push : (places : List Condition) (count : ℕ) (c : Condition) → AreKept places count → length (take count places) < most_conditions →
    AreKept (set places count c) (count + 1)
kept-push places count c kept below =
    let more : count < 8 = room places count kept below in
    let left : most_conditions - count - 1 ≡ most_conditions - (count + 1) = omega arith in
    record {
      within = omega (arith, more);
      all = length-set places count c ∙ kept.all;
      others = drop-set-lt (count + 1) places count c (omega arith) ∙ sym (drop-drop 1 count places) ∙ ap (drop 1) kept.others
          ∙ drop-replicate 1 (most_conditions - count) (Alters Clock) ∙ ap (λ n. replicate n (Alters Clock)) left;
    }

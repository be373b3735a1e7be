-- What a step keeps put back: the clock, the location, and another value.
use Rattle.std.proofs.Common.{Bool, ℕ, true, false, nat_le, IsSome, IsTrue, ◌≡◌, ◌≤◌, ◌∙◌, [], ◌∷◌, Option, Some, None, MatchOption, refl, sym, ap, subst, arith}
use Rattle.std.specs.Bool.{then_some}
use Rattle.std.specs.Option.{option_and_then}
use Rattle.std.proofs.lemmas.Bool.Decides.{nat_tests}
use Rattle.undo_core.specs.Replay.{put_back}
use Rattle.mix_machine.specs.Prelude.{WorldState, last_clock, put_value, set_value, fits, Old}
use Rattle.mix_machine.specs.declared.old.Old.TheVariants as old

put-bool : (b : Bool) (w : WorldState) → IsSome (then_some b w) → IsTrue b × (then_some b w ≡ Some w)
put-bool true w e = (refl, refl)
put-bool false w e = absurd (cc)

-- a value put back after others
record Put (o : Option WorldState) (v : Old) : Type 0 where
  pub state : WorldState
  pub others : o ≡ Some state
  pub fit : IsTrue (fits state v)
  pub done : option_and_then (λ (t : WorldState). put_value t v) o ≡ Some (set_value state v)

put-after : (o : Option WorldState) (v : Old) → IsSome (option_and_then (λ (t : WorldState). put_value t v) o) → Put o v
put-after None v e = absurd (cc)
put-after (Some w) v e =
    let p = put-bool (fits w v) (set_value w v) e in record { state = w; others = refl; fit = p.0; done = p.1 }

pub record TwoPut (w : WorldState) (l c : ℕ) : Type 0 where
  pub clock : c ≤ last_clock
  pub loc : l ≤ 4000
  pub done : put_back put_value (old.Loc l ∷ old.Clock c ∷ []) w ≡ Some (set_value (set_value w (old.Clock c)) (old.Loc l))

-- the clock and the location
pub two-put : (w : WorldState) (l c : ℕ) → IsSome (put_back put_value (old.Loc l ∷ old.Clock c ∷ []) w) → TwoPut w l c
two-put w l c some =
    let loc = put-after (put_back put_value (old.Clock c ∷ []) w) (old.Loc l) some in
    let clock = put-after (Some w) (old.Clock c) (subst IsSome (sym loc.others) refl) in
    let time : nat_le c last_clock ≡ true = clock.fit in
    let place : nat_le l 4000 ≡ true = loc.fit in
    let first : put_back put_value (old.Clock c ∷ []) w ≡ Some (set_value w (old.Clock c)) = rw time refl in
    record {
      clock = grind (arith, nat_tests);
      loc = grind (arith, nat_tests);
      done = ap (option_and_then (λ (t : WorldState). put_value t (old.Loc l))) first ∙ rw place refl;
    }

-- the state after them
abbrev pub after_two : WorldState → ℕ → ℕ → WorldState
after_two w l c = set_value (set_value w (old.Clock c)) (old.Loc l)

pub record ThreePut (w : WorldState) (v : Old) (l c : ℕ) : Type 0 where
  pub two : TwoPut w l c
  pub value : IsTrue (fits (after_two w l c) v)
  pub done : put_back put_value (v ∷ old.Loc l ∷ old.Clock c ∷ []) w ≡ Some (set_value (after_two w l c) v)

-- another value too
pub three-put : (w : WorldState) (v : Old) (l c : ℕ) → IsSome (put_back put_value (v ∷ old.Loc l ∷ old.Clock c ∷ []) w) → ThreePut w v l c
three-put w v l c some =
    let last = put-after (put_back put_value (old.Loc l ∷ old.Clock c ∷ []) w) v some in
    let two = two-put w l c (subst IsSome (sym last.others) refl) in
    let same : Some last.state ≡ Some (after_two w l c) = sym last.others ∙ two.done in
    let fit : IsTrue (fits (after_two w l c) v) = subst (λ (t : Option WorldState). MatchOption t (Unit {0}) (λ s. IsTrue (fits s v))) same last.fit in
    record { two = two; value = fit; done = ap (option_and_then (λ (t : WorldState). put_value t v)) two.done ∙ rw fit refl }

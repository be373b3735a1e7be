-- A step over, step by step.
use Rattle.std.proofs.Common.{◌≡◌, ℕ, zero, suc, ◌+◌, ◌-◌, ◌<◌, ◌≤◌, ◌==◌, Bool, true, false, Result, Ok, Err, refl, sym, ap, ◌∙◌, arith, add-one, below_more}
use Rattle.std.proofs.lemmas.Bool.{ne_eqb}
use Rattle.mix_machine.specs.Prelude.{WorldState, does, is_halt_next}
use Rattle.mix_machine.specs.declared.fault.MixFault.{MixFault}
use Rattle.mix_machine.specs.declared.old.Change.TheVariants.{Step}
use Rattle.mix_session.specs.Command.{least_below}
use Rattle.mix_session.specs.Over.{calls_after, calls_in, is_last, stepped, steps_over}
use Rattle.mix_session.proofs.CommandLemmas.{least_below-is}

-- So many steps are done, of which none was the last: where they lead, and how many calls have not come back.
pub record IsGoing (start world : WorldState) (most done calls : ℕ) : Type 0 where
  pub within : done < most
  pub led : world ≡ stepped start done
  pub counted : calls ≡ calls_in start done
  pub few : calls ≤ done
  pub before : (k : ℕ) → k < done → is_last start k ≡ false

pub going-begins : (start : WorldState) (most : ℕ) → 0 < most → IsGoing start start most 0 0
going-begins start most some =
    record { within = some; led = refl; counted = refl; few = omega arith; before = λ k below. absurd (omega (arith, below)) }

-- the next one is, or as many are done as are allowed
pub ends-here : (start world : WorldState) (most done calls : ℕ) → IsGoing start world most done calls → (done + 1 < most → is_last start done ≡ true)
    → done + 1 ≡ steps_over start most
unfolding steps_over
ends-here start world most done calls g is =
    let least : least_below (most - 1) (is_last start) ≡ done =
    least_below-is (most - 1) done (is_last start) (omega (arith, g.within)) (λ below. is (omega (arith, below))) g.before in
    add-one done ∙ ap suc (sym least)

pub ends-by : (start world : WorldState) (most done calls steps : ℕ) → IsGoing start world most done calls → (done + 1 < most → ⊥) → steps ≡ most
    → steps ≡ steps_over start most
ends-by start world most done calls steps g all is =
    let same : steps ≡ done + 1 = omega (arith, g.within, all, is) in same ∙ ends-here start world most done calls g (λ below. absurd (all below))

-- it is a halt, or a fault
pub ends-halt : (start world : WorldState) (most done calls : ℕ) (halts : Bool) → IsGoing start world most done calls → halts ≡ is_halt_next world → halts ≡ true
    → done + 1 ≡ steps_over start most
ends-halt start world most done calls halts g is halted = ends-here start world most done calls g (λ below. rw (← g.led, ← is, halted) refl)

pub ends-fault : (start world : WorldState) (most done calls : ℕ) (halts : Bool) (why : MixFault) → IsGoing start world most done calls
    → halts ≡ is_halt_next world → halts ≡ false → does world Step ≡ Err why → done + 1 ≡ steps_over start most
ends-fault start world most done calls halts why g is goes fault =
    ends-here start world most done calls g (λ below. rw (← g.led, ← is, goes, fault) refl)

-- whether it is one after which all calls have come back
last-by : (start world next : WorldState) (most done calls after : ℕ) (halts : Bool) → IsGoing start world most done calls → halts ≡ is_halt_next world
    → halts ≡ false → does world Step ≡ Ok next → after ≡ calls_after start.loc world.loc next calls → is_last start done ≡ (after == 0)
last-by start world next most done calls after halts g is goes given counted =
    rw (← g.led, ← is, goes, given, ← g.counted) (ap (λ n. n == 0) (sym counted))

pub ends-back : (start world next : WorldState) (most done calls after : ℕ) (halts : Bool) → IsGoing start world most done calls → halts ≡ is_halt_next world
    → halts ≡ false → does world Step ≡ Ok next → after ≡ calls_after start.loc world.loc next calls → after ≡ 0 → done + 1 ≡ steps_over start most
ends-back start world next most done calls after halts g is goes given counted none =
    ends-here start world most done calls g (λ below. last-by start world next most done calls after halts g is goes given counted ∙ rw none refl)

-- it goes on
pub going-next : (start world next : WorldState) (most done calls after : ℕ) (halts : Bool) → IsGoing start world most done calls → done + 1 < most
    → halts ≡ is_halt_next world → halts ≡ false → does world Step ≡ Ok next → after ≡ calls_after start.loc world.loc next calls → after ≤ calls + 1
    → (after ≡ 0 → ⊥) → IsGoing start next most (done + 1) after
going-next start world next most done calls after halts g below is goes given counted few some = record {
  within = below;
  led = rw (add-one, ← g.led, given) refl;
  counted = rw (add-one, ← g.led, given, ← g.counted) counted;
  few = omega (arith, g.few, few);
  before = below_more (λ k. is_last start k ≡ false) done g.before
      (last-by start world next most done calls after halts g is goes given counted ∙ ne_eqb after 0 some);
}

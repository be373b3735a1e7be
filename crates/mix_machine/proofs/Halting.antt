-- HLT is named by C = 5 and F = 2, and by nothing else.
use Rattle.std.proofs.Common.{ℕ, ◌≡◌, ◌<◌, ◌==◌, ◌&&◌, ◌↔◌, Bool, true, false, IsTrue, Result, Ok, Err, refl, arith}
use Rattle.std.proofs.lemmas.Bool.Decides.{nat_tests}
use Rattle.mix_word.specs.declared.decoding.Decoded.{Decoded}
use Rattle.mix_word.specs.declared.decoding.Decoded.TheVariants.{Named}
use Rattle.mix_word.specs.declared.operation.Operation.TheVariants.{Hlt}
use Rattle.mix_word.specs.Table.{IsNamedBy}
use Rattle.mix_machine.specs.Prelude.{WorldState, IsWorld, instruction, decode_at, arguments_at, applies, operation_or_nop, does, plan_of, state_after, step_plan, is_halt_next, passed, Plan, MixFault, Step}

named-hlt : (c f : ℕ) → IsNamedBy Hlt c f → (c == 5 && f == 2) ≡ true
named-hlt c f h =
    let five : 5 ≡ c = h.0 in
    let two : 2 ≡ f = h.1 refl in
    grind (arith, nat_tests)

hlt-named : (c f : ℕ) → (c == 5 && f == 2) ≡ true → IsNamedBy Hlt c f
hlt-named c f h =
    let five : c ≡ 5 = grind (arith, nat_tests) in
    let two : f ≡ 2 = grind (arith, nat_tests) in
    rw (five, two) (refl, (λ _. refl), refl)

-- the test of C and F, by what they name
pub halt-tested : (c f : ℕ) (d : Decoded) (b : Bool) → ((d ≡ Named Hlt) ↔ IsNamedBy Hlt c f) → (IsTrue b ↔ (d ≡ Named Hlt)) →
    b ≡ (c == 5 && f == 2)
halt-tested c f d true law test = let is = named-hlt c f (law.0 (test.0 refl)) in cc
halt-tested c f d false law test =
    elim (c == 5 && f == 2) as (λ t. (c == 5 && f == 2) ≡ t → false ≡ t) [
      | true ↦ λ q. let no = test.1 (law.1 (hlt-named c f q)) in cc
      | false ↦ λ q. refl
    ] refl

-- the plan of an accepted step
pub planned : (w t : WorldState) (r : Result Plan MixFault) → plan_of w Step ≡ r → state_after w r ≡ Ok t → (p : Plan) × (plan_of w Step ≡ Ok p)
planned w t (Ok p) e h = (p, e)
planned w t (Err f) e h = absurd (cc)

-- an accepted step begins at a cell
pub at-cell : (w : WorldState) (p : Plan) → IsWorld w → plan_of w Step ≡ Ok p → w.loc < 4000
unfolding plan_of
at-cell w p h e =
    let all = passed (applies (decode_at w) w (arguments_at w)) (step_plan (operation_or_nop (decode_at w)) w (arguments_at w)) p e in
    let there = all.0.location in
    let most = h.loc in
    grind (arith, nat_tests)

-- an accepted step is one of HLT exactly where C is 5 and F is 2
pub halting : (w t : WorldState) → ((decode_at w ≡ Named Hlt) ↔ IsNamedBy Hlt (instruction w).code (instruction w).f) → IsWorld w →
    does w Step ≡ Ok t → IsTrue (is_halt_next w) ↔ (decode_at w ≡ Named Hlt)
unfolding does
halting w t law h e =
    let plan = planned w t (plan_of w Step) refl e in
    let there = at-cell w plan.0 h plan.1 in
    let c = (instruction w).code in
    let f = (instruction w).f in (
      λ next. law.1 (hlt-named c f (grind (arith, nat_tests))),
      λ hlt. let named = named-hlt c f (law.0 hlt) in grind (arith, nat_tests),
    )

-- The tests of a step made in groups find the same fault as the one order does.
use Rattle.std.proofs.Common.{◌≡◌, ◌==◌, ◌∙◌, Bool, true, false, cond, List, [], ◌∷◌, ◌++◌, Some, None, Ok, Err, refl}
use Rattle.mix_word.specs.declared.decoding.Decoded.{Decoded}
use Rattle.mix_word.specs.declared.decoding.Decoded.TheVariants.{Named, Floating, Unknown}
use Rattle.mix_machine.specs.Prelude.{WorldState, applies, first_fault, order, step_or_fault, Arguments, MixFault}
use Rattle.mix_machine.specs.law.Stages.{of_instruction, of_address, of_operation, fault_among}
use Rattle.mix_machine.specs.declared.fault.MixFault.TheVariants.{NoOperation, FloatingOperation, NoCellAtLocation, ClockFull}

among-some : {X : Type 0} (test : MixFault → Bool) (fs gs : List MixFault) (x : X) (f : MixFault) → fault_among test fs ≡ Some f →
    first_fault test (fs ++ gs) x ≡ Err f
among-some test [] gs x f h = cc
among-some test (g ∷ fs) gs x f h =
    elim (test g) as (λ b. cond b (Some g) (fault_among test fs) ≡ Some f → cond b (Err g) (first_fault test (fs ++ gs) x) ≡ Err f) [
      | true ↦ λ q. let same : g ≡ f = cc in cc
      | false ↦ λ q. among-some test fs gs x f q
    ] h

among-none : {X : Type 0} (test : MixFault → Bool) (fs gs : List MixFault) (x : X) → fault_among test fs ≡ None →
    first_fault test (fs ++ gs) x ≡ first_fault test gs x
among-none test [] gs x h = refl
among-none test (g ∷ fs) gs x h =
    elim (test g) as (λ b. cond b (Some g) (fault_among test fs) ≡ None → cond b (Err g) (first_fault test (fs ++ gs) x) ≡ first_fault test gs x) [
      | true ↦ λ q. absurd (cc)
      | false ↦ λ q. among-none test fs gs x q
    ] h

first-err : {X Y : Type 0} (test : MixFault → Bool) (fs gs : List MixFault) (x : X) (y : Y) (f : MixFault) → first_fault test fs y ≡ Err f →
    first_fault test (fs ++ gs) x ≡ Err f
first-err test [] gs x y f h = absurd (cc)
first-err test (g ∷ fs) gs x y f h =
    elim (test g) as (λ b. cond b (Err g) (first_fault test fs y) ≡ Err f → cond b (Err g) (first_fault test (fs ++ gs) x) ≡ Err f) [
      | true ↦ λ q. let same : g ≡ f = cc in cc
      | false ↦ λ q. first-err test fs gs x y f q
    ] h

first-ok : {X Y : Type 0} (test : MixFault → Bool) (fs gs : List MixFault) (x : X) (y z : Y) → first_fault test fs y ≡ Ok z →
    (first_fault test (fs ++ gs) x ≡ first_fault test gs x) × (y ≡ z)
first-ok test [] gs x y z h = (refl, cc)
first-ok test (g ∷ fs) gs x y z h =
    elim (test g) as (λ b. cond b (Err g) (first_fault test fs y) ≡ Ok z → (cond b (Err g) (first_fault test (fs ++ gs) x) ≡ first_fault test gs x) × (y ≡ z)) [
      | true ↦ λ q. absurd (cc)
      | false ↦ λ q. first-ok test fs gs x y z q
    ] h

at-cell : {X : Type 0} (test : MixFault → Bool) (x : X) → test NoCellAtLocation ≡ false →
    first_fault test order x ≡ first_fault test (of_instruction ++ (of_operation ++ ClockFull ∷ [])) x
at-cell test x h = rw h refl

-- a fault of the instruction is the step's
pub fault-of-instruction : {X : Type 0} (test : MixFault → Bool) (x : X) (f : MixFault) → test NoCellAtLocation ≡ false →
    fault_among test of_instruction ≡ Some f → first_fault test order x ≡ Err f
fault-of-instruction test x f h s = at-cell test x h ∙ among-some test of_instruction (of_operation ++ ClockFull ∷ []) x f s

-- and then one of the operation
pub fault-of-operation : {X Y : Type 0} (test : MixFault → Bool) (x : X) (y : Y) (f : MixFault) → test NoCellAtLocation ≡ false →
    fault_among test of_instruction ≡ None → first_fault test of_operation y ≡ Err f → first_fault test order x ≡ Err f
fault-of-operation test x y f h s e =
    at-cell test x h ∙ among-none test of_instruction (of_operation ++ ClockFull ∷ []) x s
    ∙ first-err test of_operation (ClockFull ∷ []) x y f e

-- and then the clock's
pub fault-of-clock : {X Y : Type 0} (test : MixFault → Bool) (x : X) (y z : Y) → test NoCellAtLocation ≡ false →
    fault_among test of_instruction ≡ None → first_fault test of_operation y ≡ Ok z →
    (first_fault test order x ≡ cond (test ClockFull) (Err ClockFull) (Ok x)) × (y ≡ z)
fault-of-clock test x y z h s e =
    let done = first-ok test of_operation (ClockFull ∷ []) x y z e in
    (at-cell test x h ∙ among-none test of_instruction (of_operation ++ ClockFull ∷ []) x s ∙ done.0, done.1)

-- a fault of I or M is the step's, whatever C and F name
pub fault-of-address : {X : Type 0} (d : Decoded) (w : WorldState) (a : Arguments) (x : X) (f : MixFault) → applies d w a NoCellAtLocation ≡ false →
    fault_among (applies d w a) of_address ≡ Some f → first_fault (applies d w a) order x ≡ Err f
fault-of-address (Named op) w a x f h s = fault-of-instruction (applies (Named op) w a) x f h s
fault-of-address Floating w a x f h s = absurd (cc)
fault-of-address Unknown w a x f h s = absurd (cc)

-- what is no operation is refused
pub fault-of-floating : (d : Decoded) (w : WorldState) (a : Arguments) → d ≡ Floating → (w.loc == 4000) ≡ false → step_or_fault d w a ≡ Err FloatingOperation
fault-of-floating d w a is there = rw (is, there) refl

pub fault-of-unknown : (d : Decoded) (w : WorldState) (a : Arguments) → d ≡ Unknown → (w.loc == 4000) ≡ false → step_or_fault d w a ≡ Err NoOperation
fault-of-unknown d w a is there = rw (is, there) refl

-- no name is longer than four letters, so that no longer text names an operation
use Rattle.std.proofs.Common.{◌≡◌, ℕ, ◌<◌, ◌≤◌, arith, List, Some, None, length, length-append, refl, ap}
use Rattle.mix_word.specs.Prelude.{DataReg, A, ShiftKind, Sla, JumpKind, Jmp, Condition, Negative, Operation, Shift, Load, LoadNegated, Store, Jump, RegisterJump, Increase, Decrease, Enter, EnterNegated, Compare, operation_named}
use Rattle.mix_word.specs.Names.{name_of, letter_of, ending_of, name_of_shift, name_of_jump}
use Rattle.mix_word.proofs.NameLemmas.{found_name}

letter : (r : DataReg) → length (letter_of r) ≡ 1
letter A = refl
letter _ = refl

ending : (c : Condition) → length (ending_of c) ≤ 2
ending Negative = omega arith
ending _ = omega arith

shift_name : (k : ShiftKind) → length (name_of_shift k) ≤ 4
shift_name Sla = omega arith
shift_name _ = omega arith

jump_name : (k : JumpKind) → length (name_of_jump k) ≤ 4
jump_name Jmp = omega arith
jump_name _ = omega arith

pub at_most_four : (op : Operation) → length (name_of op) ≤ 4
at_most_four (Shift k) = shift_name k
at_most_four (Jump k) = jump_name k
at_most_four (Load r) = omega (arith, letter r)
at_most_four (LoadNegated r) = simp length-append (omega (arith, letter r))
at_most_four (Store r) = omega (arith, letter r)
at_most_four (RegisterJump r c) = simp length-append (omega (arith, letter r, ending c))
at_most_four (Increase r) = omega (arith, letter r)
at_most_four (Decrease r) = omega (arith, letter r)
at_most_four (Enter r) = omega (arith, letter r)
at_most_four (EnterNegated r) = omega (arith, letter r)
at_most_four (Compare r) = omega (arith, letter r)
at_most_four _ = omega arith

pub text_at_most_four : (op : Operation) (name : List ℕ) → name ≡ name_of op → length name ≤ 4
text_at_most_four op name e = omega (arith, at_most_four op, ap length e)

pub none_longer : (name : List ℕ) → 4 < length name → operation_named name ≡ None
none_longer name longer =
    elim (operation_named name) as (λ o. operation_named name ≡ o → o ≡ None) [
      | Some op ↦ λ e. absurd (omega (arith, at_most_four op, ap length (found_name name op e)))
      | None ↦ λ e. refl
    ] refl

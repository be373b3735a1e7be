-- the table of all pairs, row by row, and what a number says of its pair
use Rattle.std.proofs.Common.{◌≡◌, ℕ, zero, suc, ◌+◌, ◌<◌, ◌/◌, ◌%◌, Bool, true, false, not, ◌&&◌, ◌||◌, ◌==◌, nat_eq, List, [], ◌∷◌, length, get_or, Option, Some, refl, subst, ap, arith, ◌∙◌, sym}
use Rattle.std.specs.List.{find}
use Rattle.std.proofs.lemmas.Bool.Decides.{nat_tests}
use Rattle.mix_word.specs.Prelude.{A, I1, I2, I3, I4, I5, I6, X, Sla, Jmp, Negative, Operation, Shift, Load, LoadNegated, Store, Jump, RegisterJump, Increase, Decrease, Enter, EnterNegated, Compare, Decoded, Named, Floating, Unknown, operation_code, operations, decode_of, IsNamedBy, number_of_operation, number_of_pair, is_of_register, IsPairTable}
use Rattle.mix_word.proofs.TableLemmas.{law_found}

-- each number of a list, from the place of a pair on, is that of its pair
unfoldable pub numbers_ok : ℕ → List ℕ → Bool
numbers_ok pair [] = true
numbers_ok pair (n ∷ ns) = nat_eq n (number_of_pair (decode_of (pair % 64) (pair / 64))) && numbers_ok (suc pair) ns

first : (a b : Bool) → (a && b) ≡ true → a ≡ true
first true b e = refl
first false b e = absurd (cc)

second : (a b : Bool) → (a && b) ≡ true → b ≡ true
second true b e = e
second false b e = absurd (cc)

in_list : (pair : ℕ) (numbers : List ℕ) (k : ℕ) → numbers_ok pair numbers ≡ true → k < length numbers → get_or numbers k 0 ≡ number_of_pair (decode_of ((pair + k) % 64) ((pair + k) / 64))
unfolding numbers_ok
in_list pair [] k e h = absurd (omega (arith, h))
in_list pair (n ∷ ns) zero e h =
    let passes : nat_eq n (number_of_pair (decode_of (pair % 64) (pair / 64))) ≡ true = first _ (numbers_ok (suc pair) ns) e in
    let same : n ≡ number_of_pair (decode_of (pair % 64) (pair / 64)) = grind (arith, nat_tests, passes) in
    let at : pair ≡ pair + zero = omega arith in
    subst (λ (m : ℕ). n ≡ number_of_pair (decode_of (m % 64) (m / 64))) at same
in_list pair (n ∷ ns) (suc k) e h =
    let rest : numbers_ok (suc pair) ns ≡ true = second (nat_eq n (number_of_pair (decode_of (pair % 64) (pair / 64)))) _ e in
    let at : suc pair + k ≡ pair + suc k = omega arith in
    let within : k < length ns = omega (arith, h) in
    subst (λ (m : ℕ). get_or ns k 0 ≡ number_of_pair (decode_of (m % 64) (m / 64))) at (in_list (suc pair) ns k rest within)

-- 4,096 numbers that pass are the table of all pairs
pub numbers_ok-IsPairTable : (numbers : List ℕ) → numbers_ok 0 numbers ≡ true → length numbers ≡ 4096 → IsPairTable numbers
numbers_ok-IsPairTable numbers e l pair below =
    let within : pair < length numbers = omega (arith, l, below) in
    let from : 0 + pair ≡ pair = omega arith in
    subst (λ (m : ℕ). get_or numbers pair 0 ≡ number_of_pair (decode_of (m % 64) (m / 64))) from (in_list 0 numbers pair e within)

pub code_in_pair : (m : ℕ) → m % 4096 % 64 ≡ m % 64
code_in_pair m = omega arith

pub f_in_pair : (m : ℕ) → m % 4096 / 64 ≡ m / 64 % 64
f_in_pair m = omega arith

-- ---- the number, and C where there is a register, name the operation

-- the operation of a number, and of a place in a row of eight codes
unfoldable numbered : ℕ → ℕ → Option Operation
numbered n k = find (λ op. number_of_operation op == n && (not (is_of_register op) || operation_code op % 8 == k)) operations

own_number : (op : Operation) → numbered (number_of_operation op) (operation_code op % 8) ≡ Some op
unfolding numbered operations
own_number (Shift Sla) = refl
own_number (Load A) = refl
own_number (LoadNegated A) = refl
own_number (Store A) = refl
own_number (Jump Jmp) = refl
own_number (RegisterJump A Negative) = refl
own_number (RegisterJump I1 Negative) = refl
own_number (RegisterJump I2 Negative) = refl
own_number (RegisterJump I3 Negative) = refl
own_number (RegisterJump I4 Negative) = refl
own_number (RegisterJump I5 Negative) = refl
own_number (RegisterJump I6 Negative) = refl
own_number (RegisterJump X Negative) = refl
own_number (Increase A) = refl
own_number (Decrease A) = refl
own_number (Enter A) = refl
own_number (EnterNegated A) = refl
own_number (Compare A) = refl
own_number _ = refl

without_register : (op : Operation) (k : ℕ) → is_of_register op ≡ false → numbered (number_of_operation op) k ≡ Some op
unfolding numbered operations
without_register (Shift Sla) k h = refl
without_register (Jump Jmp) k h = refl
without_register (Load r) k h = absurd (cc)
without_register (LoadNegated r) k h = absurd (cc)
without_register (Store r) k h = absurd (cc)
without_register (RegisterJump r t) k h = absurd (cc)
without_register (Increase r) k h = absurd (cc)
without_register (Decrease r) k h = absurd (cc)
without_register (Enter r) k h = absurd (cc)
without_register (EnterNegated r) k h = absurd (cc)
without_register (Compare r) k h = absurd (cc)
without_register _ k h = refl

at_number : (op : Operation) (k : ℕ) → (is_of_register op ≡ true → operation_code op % 8 ≡ k) → numbered (number_of_operation op) k ≡ Some op
at_number op k h =
    elim (is_of_register op) as (λ b. is_of_register op ≡ b → numbered (number_of_operation op) k ≡ Some op) [
      | true ↦ λ t. subst (λ (n : ℕ). numbered (number_of_operation op) n ≡ Some op) (h t) (own_number op)
      | false ↦ λ t. without_register op k t
    ] refl

number_below : (op : Operation) → number_of_operation op < 46
number_below (Jump Jmp) = omega arith
number_below (Jump _) = omega arith
number_below (RegisterJump r Negative) = omega arith
number_below (RegisterJump r _) = omega arith
number_below (Shift Sla) = omega arith
number_below (Shift _) = omega arith
number_below _ = omega arith

same_operation : (is op : Operation) (c : ℕ) → operation_code is ≡ c → number_of_operation is ≡ number_of_operation op → (is_of_register op ≡ true → operation_code op % 8 ≡ c % 8) → is ≡ op
same_operation is op c code number register =
    let by_is : numbered (number_of_operation is) (c % 8) ≡ Some is = at_number is (c % 8) (λ _. ap (λ (n : ℕ). n % 8) code) in
    let by_op : numbered (number_of_operation op) (c % 8) ≡ Some op = at_number op (c % 8) register in
    let one : Some is ≡ Some op = sym by_is ∙ ap (λ (n : ℕ). numbered n (c % 8)) number ∙ by_op in
    cc

among : (d : Decoded) (c f : ℕ) (op : Operation) → ((is : Operation) → d ≡ Named is → IsNamedBy is c f) → number_of_pair d ≡ number_of_operation op → (is_of_register op ≡ true → operation_code op % 8 ≡ c % 8) → d ≡ Named op
among (Named is) c f op law number register = ap Named (same_operation is op c (law is refl).0 number register)
among Floating c f op law number register = absurd (omega (arith, number_below op, number))
among Unknown c f op law number register = absurd (omega (arith, number_below op, number))

pub by_number : (c f : ℕ) (op : Operation) → number_of_pair (decode_of c f) ≡ number_of_operation op → (is_of_register op ≡ true → operation_code op % 8 ≡ c % 8) → decode_of c f ≡ Named op
by_number c f op number register = among (decode_of c f) c f op (λ is e. law_found is c f e) number register

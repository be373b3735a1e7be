-- the list of operations, looked up: what is found has the code, and each operation is found by its own
use Rattle.std.proofs.Common.{◌≡◌, ◌↔◌, ◌⊎◌, inl, inr, ℕ, zero, suc, cond, ◌-◌, ◌+◌, ◌<◌, ◌≤◌, true, false, ◌==◌, IsTrue, Option, Some, None, refl, subst, ◌∙◌, sym, arith}
use Rattle.mix_word.proofs.FindLemmas.{find-none, find-passes}
use Rattle.std.proofs.lemmas.Bool.Decides.{nat_tests}
use Rattle.mix_word.specs.Prelude.{offset_of, DataReg, A, I1, I2, I3, I4, I5, I6, X, Sla, Jmp, Negative, Operation, Num, Char, Hlt, Shift, Load, LoadNegated, Store, Jump, RegisterJump, Increase, Decrease, Enter, EnterNegated, Compare, Decoded, Named, Floating, Unknown, name_of}
use Rattle.mix_word.specs.Operation.{operation_code, normal_f_of, is_by_f}
use Rattle.mix_word.specs.Table.{operations, is_floating, has_code, operation_at, operation_named, decode_of, named_or_unknown, IsNamedBy}

-- ---- each operation is found by its own name, code and F

-- by its own name, by its own C and F; and these are no floating pair
pub own : (op : Operation) → (operation_named (name_of op) ≡ Some op)
    × (operation_at (operation_code op) (normal_f_of op) ≡ Some op) × (is_floating (operation_code op) (normal_f_of op) ≡ false)
unfolding operation_named operation_at operations
own (Shift Sla) = (refl, refl, refl)
own (Load A) = (refl, refl, refl)
own (LoadNegated A) = (refl, refl, refl)
own (Store A) = (refl, refl, refl)
own (Jump Jmp) = (refl, refl, refl)
own (RegisterJump A Negative) = (refl, refl, refl)
own (RegisterJump I1 Negative) = (refl, refl, refl)
own (RegisterJump I2 Negative) = (refl, refl, refl)
own (RegisterJump I3 Negative) = (refl, refl, refl)
own (RegisterJump I4 Negative) = (refl, refl, refl)
own (RegisterJump I5 Negative) = (refl, refl, refl)
own (RegisterJump I6 Negative) = (refl, refl, refl)
own (RegisterJump X Negative) = (refl, refl, refl)
own (Increase A) = (refl, refl, refl)
own (Decrease A) = (refl, refl, refl)
own (Enter A) = (refl, refl, refl)
own (EnterNegated A) = (refl, refl, refl)
own (Compare A) = (refl, refl, refl)
own _ = (refl, refl, refl)

at_any : (op : Operation) (f : ℕ) → is_by_f op ≡ false → operation_at (operation_code op) f ≡ Some op
unfolding operation_at operations
at_any (Load A) f h = refl
at_any (LoadNegated A) f h = refl
at_any (Store A) f h = refl
at_any (Compare A) f h = refl
at_any Num f h = absurd (cc)
at_any Char f h = absurd (cc)
at_any Hlt f h = absurd (cc)
at_any (Shift k) f h = absurd (cc)
at_any (Jump k) f h = absurd (cc)
at_any (RegisterJump r t) f h = absurd (cc)
at_any (Increase r) f h = absurd (cc)
at_any (Decrease r) f h = absurd (cc)
at_any (Enter r) f h = absurd (cc)
at_any (EnterNegated r) f h = absurd (cc)
at_any _ f h = refl

-- an operation by F is found by its normal one, and any other by every F
own_f : (op : Operation) (f : ℕ) → (is_by_f op ≡ true → normal_f_of op ≡ f) → operation_at (operation_code op) f ≡ Some op
own_f op f h =
    elim (is_by_f op) as (λ b. is_by_f op ≡ b → operation_at (operation_code op) f ≡ Some op) [
      | true ↦ λ t. subst (λ (n : ℕ). operation_at (operation_code op) n ≡ Some op) (h t) (own op).1
      | false ↦ λ t. at_any op f t
    ] refl

pub names : (op : Operation) (c f : ℕ) → operation_code op ≡ c → (is_by_f op ≡ true → normal_f_of op ≡ f) → is_floating c f ≡ false → decode_of c f ≡ Named op
unfolding decode_of
names op c f e by_f plain =
    let found : operation_at c f ≡ Some op = subst (λ (n : ℕ). operation_at n f ≡ Some op) e (own_f op f by_f) in
    rw (plain, found) refl

pub floats : (c f : ℕ) → is_floating c f ≡ true → decode_of c f ≡ Floating
unfolding decode_of
floats c f e = rw e refl

-- ---- pairs that name no operation

none_at_jump : (r : DataReg) (f : ℕ) → 5 < f → operation_at (40 + offset_of r) f ≡ None
unfolding operation_at operations
none_at_jump A f h = grind (arith, nat_tests)
none_at_jump _ f h = grind (arith, nat_tests)

none_at_transfer : (r : DataReg) (f : ℕ) → 3 < f → operation_at (48 + offset_of r) f ≡ None
unfolding operation_at operations
none_at_transfer A f h = grind (arith, nat_tests)
none_at_transfer _ f h = grind (arith, nat_tests)

at_offset : (n : ℕ) → n < 8 → (r : DataReg) × (offset_of r ≡ n)
at_offset zero h = (A, refl)
at_offset (suc zero) h = (I1, refl)
at_offset (suc (suc zero)) h = (I2, refl)
at_offset (suc (suc (suc zero))) h = (I3, refl)
at_offset (suc (suc (suc (suc zero)))) h = (I4, refl)
at_offset (suc (suc (suc (suc (suc zero))))) h = (I5, refl)
at_offset (suc (suc (suc (suc (suc (suc zero)))))) h = (I6, refl)
at_offset (suc (suc (suc (suc (suc (suc (suc n))))))) h = (X, omega arith)

register_below : (r : DataReg) → offset_of r < 8
register_below A = omega arith
register_below _ = omega arith

code_below : (op : Operation) → operation_code op < 64
code_below (Load r) = omega (arith, register_below r)
code_below (LoadNegated r) = omega (arith, register_below r)
code_below (Store r) = omega (arith, register_below r)
code_below (RegisterJump r t) = omega (arith, register_below r)
code_below (Increase r) = omega (arith, register_below r)
code_below (Decrease r) = omega (arith, register_below r)
code_below (Enter r) = omega (arith, register_below r)
code_below (EnterNegated r) = omega (arith, register_below r)
code_below (Compare r) = omega (arith, register_below r)
code_below _ = omega arith

none_past : (c f : ℕ) → 63 < c → operation_at c f ≡ None
unfolding operation_at
none_past c f h =
    find-none (has_code c f) operations (λ op. let b : operation_code op < 64 = code_below op in let ne : (operation_code op == c) ≡ false = grind (arith, nat_tests) in rw ne refl)

names_none_plain : (c f : ℕ) → operation_at c f ≡ None → is_floating c f ≡ false → decode_of c f ≡ Unknown
unfolding decode_of
names_none_plain c f e plain = rw (plain, e) refl

-- the pairs past the last code, and those of register jumps and address transfers with an F too large
pub names_none : (c f : ℕ) → (63 < c) ⊎ (40 ≤ c × c < 48 × 5 < f) ⊎ (48 ≤ c × c < 56 × 3 < f) → decode_of c f ≡ Unknown
names_none c f (inl h) = names_none_plain c f (none_past c f h) (grind (arith, nat_tests))
names_none c f (inr (inl h)) =
    let r = at_offset (c - 40) (omega arith) in
    let at : 40 + offset_of r.0 ≡ c = omega (arith, r.1) in
    names_none_plain c f (subst (λ (n : ℕ). operation_at n f ≡ None) at (none_at_jump r.0 f h.2)) (grind (arith, nat_tests))
names_none c f (inr (inr h)) =
    let r = at_offset (c - 48) (omega arith) in
    let at : 48 + offset_of r.0 ≡ c = omega (arith, r.1) in
    names_none_plain c f (subst (λ (n : ℕ). operation_at n f ≡ None) at (none_at_transfer r.0 f h.2)) (grind (arith, nat_tests))

-- ---- what is found has the code

named_found : (o : Option Operation) (op : Operation) → named_or_unknown o ≡ Named op → o ≡ Some op
named_found None op e = absurd (cc)
named_found (Some x) op e = cc

has_code-names : (c f : ℕ) (op : Operation) → has_code c f op ≡ true → (operation_code op ≡ c) × (IsTrue (is_by_f op) → normal_f_of op ≡ f)
has_code-names c f op e = (grind (arith, nat_tests), λ b. grind (arith, nat_tests))

pub law_found : (op : Operation) (c f : ℕ) → decode_of c f ≡ Named op → IsNamedBy op c f
unfolding decode_of operation_at
law_found op c f e =
    elim (is_floating c f) as (λ b. is_floating c f ≡ b → cond b Floating (named_or_unknown (operation_at c f)) ≡ Named op → IsNamedBy op c f) [
      | true ↦ λ t q. absurd (cc)
      | false ↦ λ t q.
          let names_it = has_code-names c f op (find-passes (has_code c f) operations op (named_found _ op q)) in
          (names_it.0, names_it.1, t)
    ] refl e

pub names_exactly : (c f : ℕ) (r : Decoded) → r ≡ decode_of c f → (op : Operation) → (r ≡ Named op) ↔ IsNamedBy op c f
names_exactly c f r e op =
    (λ q. law_found op c f (sym e ∙ q), λ h. e ∙ names op c f h.0 h.1 h.2)

-- ---- an operation's own pair leads back to it

pub own_pair : (op : Operation) (f : ℕ) → f ≡ normal_f_of op → decode_of (operation_code op) f ≡ Named op
own_pair op f e =
    subst (λ (n : ℕ). decode_of (operation_code op) n ≡ Named op) (sym e) (names op (operation_code op) (normal_f_of op) refl (λ _. refl) (own op).2)

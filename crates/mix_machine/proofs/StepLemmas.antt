-- What the headers of a step say: a moment, a jump, a short step.
use Rattle.std.proofs.Common.{ℕ, true, false, nat_eq, nat_lt, slice_get, ◌≡◌, ◌+◌, ◌-◌, ◌*◌, ◌/◌, ◌%◌, ◌<◌, ◌≤◌, ◌^◌, List, [], ◌∷◌, ◌++◌, reverse, Some, refl, sym, ap, ◌∙◌, append_assoc, arith}
use Rattle.std.proofs.lemmas.Bool.Decides.{nat_tests}
use Rattle.std.proofs.lemmas.List.{reverse-append}
use Rattle.std.proofs.lemmas.Nat.{mod-mul-add}
use Rattle.mix_word.specs.Prelude.{WordValue, word, all_registers, number_of_register}
use Rattle.mix_word.specs.declared.register.Reg.{Reg}
use Rattle.mix_word.specs.declared.word.Sign.TheVariants.{Plus, Minus}
use Rattle.mix_word.specs.declared.register.Reg.TheVariants as reg
use Rattle.mix_machine.specs.Prelude.{Old, Anchor, Kind}
use Rattle.mix_machine.specs.declared.old.Old.TheVariants as old
use Rattle.mix_machine.specs.declared.pack.kind.Kind.TheVariants as kind
use Rattle.mix_machine.specs.Pack.{header_of, last_of, last_value, value_by, jump_value, short_value, short_word, wide_bits, time_of, said, Says, IsAfterTime, before_moment, before_jump, before_short, moment_said, jump_said, short_said}
use Rattle.mix_machine.proofs.PackLemmas.{said-last, said-one, register-header}
use Rattle.mix_machine.proofs.SizeLemmas.{last-header, next-even}

-- a header whose last value leaves another header
pub leaves : (units : List ℕ) (k j : Kind) (n m : ℕ) (a b : Anchor) (v : Old) → value_by k n a (reverse units) ≡ Some (last_of v b (header_of j m ∷ reverse units)) →
    said a (units ++ header_of k n ∷ []) ≡ said b (units ++ header_of j m ∷ []) ++ v ∷ []
leaves units k j n m a b v e =
    said-last (units ++ header_of k n ∷ []) (units ++ header_of j m ∷ []) a b v
    (ap (last_value a) (reverse-append units (header_of k n ∷ [])) ∙ last-header k n a (reverse units) ∙ e
    ∙ ap (λ us. Some (last_of v b us)) (sym (reverse-append units (header_of j m ∷ []))))

-- a header of one value
alone : (units : List ℕ) (k : Kind) (n : ℕ) (a : Anchor) (v : Old) → value_by k n a (reverse units) ≡ Some (last_of v a (reverse units)) →
    said a (units ++ header_of k n ∷ []) ≡ said a units ++ v ∷ []
alone units k n a v e = said-one units (units ++ header_of k n ∷ []) k n (header_of k n) a v refl refl e

two-said : (all some none : List Old) (one two : Old) → all ≡ some ++ two ∷ [] → some ≡ none ++ one ∷ [] → all ≡ none ++ one ∷ two ∷ []
two-said all some none one two e f = e ∙ ap (λ (vs : List Old). vs ++ two ∷ []) f ∙ append_assoc none (one ∷ []) (two ∷ [])

pub three-said : (all most some none : List Old) (one two three : Old) → all ≡ most ++ three ∷ [] → most ≡ some ++ two ∷ [] → some ≡ none ++ one ∷ [] →
    all ≡ none ++ one ∷ two ∷ three ∷ []
three-said all most some none one two three e f g =
    e ∙ ap (λ (vs : List Old). vs ++ three ∷ []) (two-said most some none one two f g) ∙ append_assoc none (one ∷ two ∷ []) (three ∷ [])

location : (l : ℕ) (a : Anchor) (us : List ℕ) → l < 65536 → value_by kind.Location l a us ≡ Some (last_of (old.Loc l) a us)
location l a us low = let same : l % 65536 ≡ l = omega (arith, low) in rw same refl

pub moment-says : (n : ℕ) (a : Anchor) → Says (header_of kind.Moment n) a (before_moment n a) (moment_said n a)
moment-says n a units =
    let b = before_moment n a in
    two-said _ _ (said b units) (old.Loc b.loc) (old.Clock b.clock) (leaves units kind.Moment kind.Location n (n % 4096) a b (old.Clock b.clock) refl)
    (alone units kind.Location (n % 4096) b (old.Loc b.loc) (location (n % 4096) b (reverse units) (omega arith)))

pub jump-says : (n : ℕ) (a : Anchor) → nat_eq (n % 2) 0 ≡ true → Says (header_of kind.Jump n) a (before_jump n a) (jump_said n a)
jump-says n a e units =
    let b = before_jump n a in
    let even : n % 2 ≡ 0 = grind (arith, nat_tests) in
    let odd = next-even n e in
    let bits = wide_bits 4096 (n / 8192) in
    let half : (n + 1) / 2 ≡ n / 2 = omega (arith, even) in
    let high : (n + 1) / 8192 ≡ n / 8192 = omega (arith, even) in
    three-said _ _ _ (said b units) (old.Reg reg.J (short_word bits)) (old.Loc b.loc) (old.Clock b.clock)
    (leaves units kind.Jump kind.Jump n (n + 1) a b (old.Clock b.clock) (ap (λ t. jump_value t n a (reverse units)) e))
    (leaves units kind.Jump kind.Register (n + 1) (bits * 16 + 8) b b (old.Loc b.loc)
    (ap (λ t. jump_value t (n + 1) b (reverse units)) odd
    ∙ ap (λ h. Some (last_of (old.Loc (h % 4096)) b (header_of kind.Register (wide_bits 4096 ((n + 1) / 8192) * 16 + 8) ∷ reverse units))) half
    ∙ ap (λ h. Some (last_of (old.Loc b.loc) b (header_of kind.Register (wide_bits 4096 h * 16 + 8) ∷ reverse units))) high))
    (alone units kind.Register (bits * 16 + 8) b (old.Reg reg.J (short_word bits))
    (register-header 8 bits reg.J (short_word bits) b (reverse units) (omega arith) refl refl))

pub short-says : (n : ℕ) (r : Reg) (a : Anchor) → nat_eq (n / 16 % 2) 0 ≡ true → slice_get all_registers (n % 8) ≡ Some r →
    Says (header_of kind.Short n) a (before_short n a) (short_said r n a)
short-says n r a e listed units =
    let b = before_short n a in
    let even : n / 16 % 2 ≡ 0 = grind (arith, nat_tests) in
    let odd : nat_eq ((n + 16) / 16 % 2) 0 ≡ false = (let one : (n + 16) / 16 % 2 ≡ 1 = omega (arith, even) in rw one refl) in
    let bits = wide_bits (2 ^ 22) (n / 32) in
    let low : (n + 16) % 8 ≡ n % 8 = omega arith in
    let high : (n + 16) / 32 ≡ n / 32 = omega (arith, even) in
    three-said _ _ _ (said b units) (old.Reg r (short_word bits)) (old.Loc b.loc) (old.Clock b.clock)
    (leaves units kind.Short kind.Short n (n + 16) a b (old.Clock b.clock) (ap (λ t. short_value t n a (reverse units)) e))
    (leaves units kind.Short kind.Register (n + 16) (bits * 16 + n % 8) b b (old.Loc b.loc)
    (ap (λ t. short_value t (n + 16) b (reverse units)) odd
    ∙ ap (λ h. Some (last_of (old.Loc b.loc) b (header_of kind.Register (wide_bits (2 ^ 22) h * 16 + (n + 16) % 8) ∷ reverse units))) high
    ∙ ap (λ h. Some (last_of (old.Loc b.loc) b (header_of kind.Register (bits * 16 + h) ∷ reverse units))) low))
    (alone units kind.Register (bits * 16 + n % 8) b (old.Reg r (short_word bits))
    (register-header (n % 8) bits r (short_word bits) b (reverse units) (omega arith) listed refl))

abbrev pub anchor_of : ℕ → ℕ → Anchor
anchor_of l c = record { loc = l; clock = c }

pub anchor-is : (l c : ℕ) (from : Anchor) → l ≡ from.loc → c ≡ from.clock → anchor_of l c ≡ from
anchor-is l c from e f = rw (e, f) refl

-- a header that is made says what it is made of
pub moment-made : (header n time : ℕ) (from to : Anchor) → header ≡ header_of kind.Moment n → n ≡ time * 4096 + from.loc → from.loc ≤ 4000 → to.clock - time ≡ from.clock →
    Says header to from (old.Loc from.loc ∷ old.Clock from.clock ∷ [])
moment-made header n time from to h is cell clock units =
    let place : n % 4096 ≡ from.loc = omega (arith, is, cell) in
    let took : n / 4096 ≡ time = omega (arith, is, cell) in
    let same : before_moment n to ≡ from = anchor-is (n % 4096) (to.clock - n / 4096) from place (ap (λ t. to.clock - t) took ∙ clock) in
    ap (λ x. said to (units ++ x ∷ [])) h ∙ moment-says n to units ∙ ap (λ (b : Anchor). said b units ++ old.Loc b.loc ∷ old.Clock b.clock ∷ []) same

pub jump-made : (header n bits : ℕ) (w : WordValue) (from to : Anchor) → header ≡ header_of kind.Jump n → n ≡ bits * 8192 + from.loc * 2 → from.loc ≤ 4000 →
    to.clock - 1 ≡ from.clock → short_word (wide_bits 4096 bits) ≡ w → Says header to from (old.Reg reg.J w ∷ old.Loc from.loc ∷ old.Clock from.clock ∷ [])
jump-made header n bits w from to h is cell clock word_is units =
    let even : n % 2 ≡ 0 = omega (arith, is) in
    let test : nat_eq (n % 2) 0 ≡ true = rw even refl in
    let place : n / 2 % 4096 ≡ from.loc = omega (arith, is, cell) in
    let high : n / 8192 ≡ bits = omega (arith, is, cell) in
    let same : before_jump n to ≡ from = anchor-is (n / 2 % 4096) (to.clock - 1) from place clock in
    let held : short_word (wide_bits 4096 (n / 8192)) ≡ w = ap (λ m. short_word (wide_bits 4096 m)) high ∙ word_is in
    ap (λ x. said to (units ++ x ∷ [])) h ∙ jump-says n to test units
    ∙ ap (λ (b : Anchor). said b units ++ old.Reg reg.J (short_word (wide_bits 4096 (n / 8192))) ∷ old.Loc b.loc ∷ old.Clock b.clock ∷ []) same
    ∙ ap (λ (v : WordValue). said from units ++ old.Reg reg.J v ∷ old.Loc from.loc ∷ old.Clock from.clock ∷ []) held

low-number : (r : Reg) → (r ≡ reg.J → ⊥) → number_of_register r < 8
low-number reg.A h = omega arith
low-number reg.X h = omega arith
low-number reg.I1 h = omega arith
low-number reg.I2 h = omega arith
low-number reg.I3 h = omega arith
low-number reg.I4 h = omega arith
low-number reg.I5 h = omega arith
low-number reg.I6 h = omega arith
low-number reg.J h = absurd (h refl)

pub short-made : (header n bits time number : ℕ) (r : Reg) (w : WordValue) (from to : Anchor) → header ≡ header_of kind.Short n →
    n ≡ bits * 32 + (time - 1) * 8 + number → number ≡ number_of_register r → slice_get all_registers number ≡ Some r → (r ≡ reg.J → ⊥) → 0 < time → time ≤ 2 →
    to.loc - 1 ≡ from.loc → to.clock - time ≡ from.clock → short_word (wide_bits (2 ^ 22) bits) ≡ w →
    Says header to from (old.Reg r w ∷ old.Loc from.loc ∷ old.Clock from.clock ∷ [])
short-made header n bits time number r w from to h is number_is listed other some few place clock word_is units =
    let small : number < 8 = omega (arith, number_is, low-number r other) in
    let even : n / 16 % 2 ≡ 0 = omega (arith, is, small, some, few) in
    let test : nat_eq (n / 16 % 2) 0 ≡ true = rw even refl in
    let at : n % 8 ≡ number = omega (arith, is, small) in
    let took : n / 8 % 2 + 1 ≡ time = omega (arith, is, small, some, few) in
    let high : n / 32 ≡ bits = omega (arith, is, small, some, few) in
    let same : before_short n to ≡ from = anchor-is (to.loc - 1) (to.clock - (n / 8 % 2 + 1)) from place (ap (λ t. to.clock - t) took ∙ clock) in
    let held : short_word (wide_bits (2 ^ 22) (n / 32)) ≡ w = ap (λ m. short_word (wide_bits (2 ^ 22) m)) high ∙ word_is in
    ap (λ x. said to (units ++ x ∷ [])) h ∙ short-says n r to test (ap (slice_get all_registers) at ∙ listed) units
    ∙ ap (λ (b : Anchor). said b units ++ old.Reg r (short_word (wide_bits (2 ^ 22) (n / 32))) ∷ old.Loc b.loc ∷ old.Clock b.clock ∷ []) same
    ∙ ap (λ (v : WordValue). said from units ++ old.Reg r v ∷ old.Loc from.loc ∷ old.Clock from.clock ∷ []) held

-- a moment in full
pub whole-made : (units one two now : List ℕ) (header n : ℕ) (from anchor to : Anchor) → IsAfterTime units anchor.clock one → IsAfterTime one from.clock two →
    now ≡ two ++ header ∷ [] → header ≡ header_of kind.WholeMoment n → n ≡ anchor.loc * 4096 + from.loc → from.loc ≤ 4000 →
    said to now ≡ said anchor units ++ old.Loc from.loc ∷ old.Clock from.clock ∷ []
whole-made units one two now header n from anchor to first second is h number cell =
    let place : n % 4096 ≡ from.loc = omega (arith, number, cell) in
    let before : n / 4096 ≡ anchor.loc = omega (arith, number, cell) in
    let firsts : reverse one ≡ first.1 ∷ first.0 ∷ reverse units =
    ap reverse first.2 ∙ reverse-append (units ++ first.0 ∷ []) (first.1 ∷ []) ∙ ap (λ (us : List ℕ). first.1 ∷ us) (reverse-append units (first.0 ∷ [])) in
    let seconds : reverse two ≡ second.1 ∷ second.0 ∷ reverse one =
    ap reverse second.2 ∙ reverse-append (one ++ second.0 ∷ []) (second.1 ∷ []) ∙ ap (λ (us : List ℕ). second.1 ∷ us) (reverse-append one (second.0 ∷ [])) in
    let backwards : reverse now ≡ header_of kind.WholeMoment n ∷ second.1 ∷ second.0 ∷ first.1 ∷ first.0 ∷ reverse units =
    ap reverse is ∙ reverse-append two (header ∷ []) ∙ ap (λ x. x ∷ reverse two) h ∙ ap (λ (us : List ℕ). header_of kind.WholeMoment n ∷ us) seconds
    ∙ ap (λ (us : List ℕ). header_of kind.WholeMoment n ∷ second.1 ∷ second.0 ∷ us) firsts in
    let same : anchor_of (n / 4096) (time_of first.0 first.1) ≡ anchor = anchor-is (n / 4096) (time_of first.0 first.1) anchor before first.3 in
    two-said _ _ (said anchor units) (old.Loc from.loc) (old.Clock from.clock)
    (said-last now (units ++ header_of kind.Location from.loc ∷ []) to anchor (old.Clock from.clock)
    (ap (last_value to) backwards ∙ last-header kind.WholeMoment n to _
    ∙ ap (λ (b : Anchor). Some (last_of (old.Clock (time_of second.0 second.1)) b (header_of kind.Location (n % 4096) ∷ reverse units))) same
    ∙ ap (λ t. Some (last_of (old.Clock t) anchor (header_of kind.Location (n % 4096) ∷ reverse units))) second.3
    ∙ ap (λ l. Some (last_of (old.Clock from.clock) anchor (header_of kind.Location l ∷ reverse units))) place
    ∙ ap (λ us. Some (last_of (old.Clock from.clock) anchor us)) (sym (reverse-append units (header_of kind.Location from.loc ∷ [])))))
    (alone units kind.Location from.loc anchor (old.Loc from.loc) (location from.loc anchor (reverse units) (omega (arith, cell))))

-- a word whose magnitude is below a limit, by its bits
pub plus-bits : (limit m : ℕ) → m < limit → limit ≤ 2 ^ 22 → short_word (wide_bits limit m) ≡ word Plus m
plus-bits limit m low small =
    let few : m < 2 ^ 23 = omega (arith, low, small) in
    let test : nat_lt m limit ≡ true = grind (arith, nat_tests) in
    let sum : m ≡ 0 * limit + m = omega arith in
    let rest : m % limit ≡ m = ap (λ k. k % limit) sum ∙ mod-mul-add 0 limit m low in
    let wide : wide_bits limit m ≡ m = rw (test, rest) (omega arith) in
    let below : nat_lt m (2 ^ 23) ≡ true = grind (arith, nat_tests) in
    let same : m % 2 ^ 23 ≡ m = omega (arith, few) in
    ap short_word wide ∙ rw (below, same) refl

pub minus-bits : (limit m : ℕ) → m < limit → limit ≤ 2 ^ 22 → short_word (wide_bits limit (m + limit)) ≡ word Minus m
minus-bits limit m low small =
    let few : m < 2 ^ 23 = omega (arith, low, small) in
    let test : nat_lt (m + limit) limit ≡ false = grind (arith, nat_tests) in
    let sum : m + limit ≡ 1 * limit + m = omega arith in
    let rest : (m + limit) % limit ≡ m = ap (λ k. k % limit) sum ∙ mod-mul-add 1 limit m low in
    let wide : wide_bits limit (m + limit) ≡ 2 ^ 23 + m = rw (test, rest) refl in
    let above : nat_lt (2 ^ 23 + m) (2 ^ 23) ≡ false = grind (arith, nat_tests) in
    let same : (2 ^ 23 + m) % 2 ^ 23 ≡ m = omega (arith, few) in
    ap short_word wide ∙ rw (above, same) refl

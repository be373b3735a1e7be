-- The list of the breakpoints and the bits that it is read from.
use Rattle.std.proofs.Common.{ℕ, zero, suc, ◌+◌, ◌/◌, ◌%◌, ◌<◌, ◌≤◌, ◌≡◌, ◌≢◌, ◌∙◌, ◌==◌, ◌||◌, Bool, true, false, not, cond, List, [], ◌∷◌, length, get_or, set, replicate, refl, ap, sym, arith}
use Rattle.std.proofs.lemmas.Bool.Decides.{nat_tests}
use Rattle.std.proofs.lemmas.List.{get_or-set_same, get_or-set_other}
use Rattle.std.proofs.lemmas.Nat.Bits.{bit_at-zero, shr_and_one}
use Rattle.std.specs.Int.{bit_at}
use Rattle.std.specs.List.{list_any}
use Rattle.mix_machine.specs.Breakpoints.{bit_of, bits_from, breaks_in}

-- a bit of the list
get-bits : (n at p : ℕ) (words : List ℕ) → p < n → get_or (bits_from n at words) p false ≡ bit_of words (at + p)
unfolding bits_from
get-bits zero at p words h = absurd (omega arith)
get-bits (suc n) at zero words h = ap (bit_of words) (omega arith)
get-bits (suc n) at (suc p) words h =
    let e : at + 1 + p ≡ at + suc p = omega arith in get-bits n (at + 1) p words (omega arith) ∙ ap (bit_of words) e

-- where the bits are the same the lists are
same-bits : (n at : ℕ) (words others : List ℕ) → ((q : ℕ) → at ≤ q → bit_of others q ≡ bit_of words q) → bits_from n at others ≡ bits_from n at words
unfolding bits_from
same-bits zero at words others h = refl
same-bits (suc n) at words others h =
    let rest = same-bits n (at + 1) words others (λ q l. h q (omega arith)) in
    let first = h at (omega arith) in
    cc

-- one bit altered
set-bits : (n at p : ℕ) (words others : List ℕ) (b : Bool) → p < n → bit_of others (at + p) ≡ b →
    ((q : ℕ) → q ≢ at + p → bit_of others q ≡ bit_of words q) → bits_from n at others ≡ set (bits_from n at words) p b
unfolding bits_from
set-bits zero at p words others b l e h = absurd (omega arith)
set-bits (suc n) at zero words others b l e h =
    let here : at + zero ≡ at = omega arith in
    let first : bit_of others at ≡ b = sym (ap (bit_of others) here) ∙ e in
    let rest = same-bits n (at + 1) words others (λ q m. h q (omega arith)) in
    cc
set-bits (suc n) at (suc p) words others b l e h =
    let there : at + 1 + p ≡ at + suc p = omega arith in
    let first = h at (omega arith) in
    let rest = set-bits n (at + 1) p words others b (omega arith) (ap (bit_of others) there ∙ e) (λ q m. h q (omega arith)) in
    cc

-- no bit
no-bits : (n at : ℕ) (words : List ℕ) → ((q : ℕ) → bit_of words q ≡ false) → bits_from n at words ≡ replicate n false
unfolding bits_from
no-bits zero at words h = refl
no-bits (suc n) at words h =
    let rest = no-bits n (at + 1) words h in
    let first = h at in
    cc

pub break-at : (p : ℕ) (words : List ℕ) → p < 4000 → get_or (breaks_in words) p false ≡ bit_of words p
unfolding breaks_in
break-at p words h = get-bits 4000 0 p words h ∙ ap (bit_of words) (omega arith)

get-same : (n i z : ℕ) → get_or (replicate n z) i z ≡ z
get-same zero i z = refl
get-same (suc n) zero z = refl
get-same (suc n) (suc i) z = get-same n i z

pub no-breaks : breaks_in (replicate 63 0) ≡ replicate 4000 false
unfolding breaks_in
no-breaks = no-bits 4000 0 (replicate 63 0) (λ q. ap (λ w. bit_at w (q % 64) == 1) (get-same 63 (q / 64) 0) ∙ ap (λ b. b == 1) (bit_at-zero (q % 64)))

-- numbers of which none has a bit set
pub none-set : (words : List ℕ) → list_any (λ word. not (word == 0)) words ≡ false → words ≡ replicate (length words) 0
none-set [] e = refl
none-set (w ∷ ws) e =
    elim (w == 0) as (λ b. (w == 0) ≡ b → (not b || list_any (λ word. not (word == 0)) ws) ≡ false → w ∷ ws ≡ 0 ∷ replicate (length ws) 0) [
      | true ↦ λ t q. let nothing : w ≡ 0 = grind (arith, nat_tests) in rw nothing (ap (λ vs. 0 ∷ vs) (none-set ws q))
      | false ↦ λ t q. absurd (cc)
    ] refl e

get-false : (n p : ℕ) → get_or (replicate n false) p false ≡ false
get-false zero p = refl
get-false (suc n) zero = refl
get-false (suc n) (suc p) = get-false n p

pub no-break-at : (words : List ℕ) (now : List Bool) (p : ℕ) → breaks_in words ≡ now → words ≡ replicate 63 0 → false ≡ get_or now p false
no-break-at words now p is none =
    sym (get-false 4000 p) ∙ ap (λ (bs : List Bool). get_or bs p false) (sym no-breaks ∙ ap breaks_in (sym none) ∙ is)

pub no_breaks_at : (words : List ℕ) (now : List Bool) (p : ℕ) → breaks_in words ≡ now → words ≡ replicate 63 0 → get_or now p false ≡ false
no_breaks_at words now p is none = sym (no-break-at words now p is none)

-- a number of the row altered in one bit
altered-bit : (words : List ℕ) (p q word : ℕ) → p / 64 < length words → q ≢ p →
    ((i : ℕ) → i < 64 → i ≢ p % 64 → bit_at word i ≡ bit_at (get_or words (p / 64) 0) i) →
    bit_of (set words (p / 64) word) q ≡ bit_of words q
altered-bit words p q word l ne h =
    elim (q / 64 == p / 64) as (λ b. (q / 64 == p / 64) ≡ b → bit_of (set words (p / 64) word) q ≡ bit_of words q) [
      | true ↦ λ t.
          let row : q / 64 ≡ p / 64 = grind (arith, nat_tests) in
          let place : q % 64 ≢ p % 64 = λ e. ne (omega arith) in
          let same = h (q % 64) (omega arith) place in
          rw (row, get_or-set_same) (ap (λ b. b == 1) same)
      | false ↦ λ t.
          let row : q / 64 ≢ p / 64 = grind (arith, nat_tests) in
          ap (λ w. bit_at w (q % 64) == 1) (get_or-set_other words (p / 64) (q / 64) word 0 row)
    ] refl

own-bit : (on : Bool) (x : ℕ) → x ≡ cond on 1 0 → (x == 1) ≡ on
own-bit true x e = rw e refl
own-bit false x e = rw e refl

set-own : (words : List ℕ) (p word : ℕ) (on : Bool) → p < 4000 → length words ≡ 63 → bit_at word (p % 64) ≡ cond on 1 0 →
    ((i : ℕ) → i < 64 → i ≢ p % 64 → bit_at word i ≡ bit_at (get_or words (p / 64) 0) i) →
    breaks_in (set words (p / 64) word) ≡ set (breaks_in words) p on
unfolding breaks_in
set-own words p word on h len bit_is other =
    let within : p / 64 < length words = omega arith in
    let here : 0 + p ≡ p = omega arith in
    let bit : bit_of (set words (p / 64) word) (0 + p) ≡ on =
    ap (bit_of (set words (p / 64) word)) here ∙ ap (λ w. bit_at w (p % 64) == 1) (get_or-set_same words (p / 64) word 0 within) ∙ own-bit on _ bit_is in
    set-bits 4000 0 p words (set words (p / 64) word) on h bit (λ q m. altered-bit words p q word within (λ s. m (omega arith)) other)

pub set-break : (words : List ℕ) (now : List Bool) (p number index word : ℕ) (on : Bool) → number ≡ p → number < 4000 → index ≡ number / 64 →
    length words ≡ 63 → breaks_in words ≡ now → bit_at word (number % 64) ≡ cond on 1 0 →
    ((i : ℕ) → i < 64 → i ≢ number % 64 → bit_at word i ≡ bit_at (get_or words index 0) i) → breaks_in (set words index word) ≡ set now p on
set-break words now p number index word on ep h ei len en bit_is other =
    let own = set-own words number word on h len bit_is (λ i l m. other i l m ∙ ap (λ j. bit_at (get_or words j 0) i) ei) in
    ap (λ i. breaks_in (set words i word)) ei ∙ own ∙ ap (λ bs. set bs number on) en ∙ ap (λ q. set now q on) ep

pub ruleset reads = (break-at, shr_and_one)

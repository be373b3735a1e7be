-- Facts of references: what the digits in them write.
use Rattle.std.proofs.Common.{◌≡◌, ℕ, ℤ, pos, negsuc, ◌<◌, ◌^◌, ◌∷◌, [], List, Bool, true, false, ◌&&◌, ◌==◌, Option, None, true≢false, refl, sym, ap, ◌∙◌, subst, codes, drop, arith, w64}
use Rattle.std.proofs.lemmas.Bool.{lt-ltb, lt-leb, ltb-true}
use Rattle.std.specs.Char.{is_digit, digit_value}
use Rattle.std.specs.Int.RustNames.{FitsSigned}
use Rattle.std.proofs.lemmas.Str.Pattern.{starts_text}
use Rattle.std.specs.List.{list_all, starts_with}
use Rattle.std.specs.Str.{IsCharBoundary}
use Rattle.std.specs.Str.Parse.{AllDigits, IsNumeral, digits_value, without_leading_plus}
use Rattle.std.specs.Str.Pattern.{FindsTextPrefix, StripsPrefix}
use Rattle.dap_asked.specs.Layout.{is_numeral, byte_at, byte_named, byte_written, within}

-- one that is none is no byte of the memory
pub far : (n : ℕ) → 24000 < n → None ≡ within n
far n beyond = rw (lt-leb n 24000 beyond) refl

pub too_far : (z : ℤ) → ¬ (FitsSigned w64 z) → None ≡ byte_at z
too_far (pos n) wrong = let beyond : ¬ (n < 2 ^ 63) = λ fits. wrong (record { sfits = fits }) in far n (omega (arith, beyond))
too_far (negsuc n) wrong = refl

both : (a b : Bool) → (a && b) ≡ true → (a ≡ true) × (b ≡ true)
both true b is = (refl, is)
both false b is = absurd (true≢false (sym is))

all_digits : (radix : ℕ) (ds : List ℕ) → AllDigits radix ds → list_all (λ c. is_digit c radix) ds ≡ true
all_digits radix [] all = refl
all_digits radix (c ∷ cs) all = rw (lt-ltb (digit_value c) radix all.0) (all_digits radix cs all.1)

digits_all : (radix : ℕ) (ds : List ℕ) → list_all (λ c. is_digit c radix) ds ≡ true → AllDigits radix ds
digits_all radix [] all = tt
digits_all radix (c ∷ cs) all = let parts = both _ _ all in (ltb-true (digit_value c) radix parts.0, digits_all radix cs parts.1)

numeral_is : (radix : ℕ) (ds : List ℕ) → IsNumeral radix ds → is_numeral radix ds ≡ true
unfolding is_numeral
numeral_is radix ds numeral = rw (lt-ltb _ _ numeral.0) (all_digits radix ds numeral.1)

is_numeral-true : (radix : ℕ) (ds : List ℕ) → is_numeral radix ds ≡ true → IsNumeral radix ds
unfolding is_numeral
is_numeral-true radix ds numeral = let parts = both _ _ numeral in (ltb-true _ _ parts.0, digits_all radix ds parts.1)

-- a numeral is read as its number
pub written : (radix n : ℕ) (ds : List ℕ) → IsNumeral radix ds → n ≡ digits_value radix ds → within n ≡ byte_written radix ds
written radix n ds numeral is = rw (numeral_is radix ds numeral) (ap within is)

-- a text that is none is no byte, nor is a number that is too long
unread : (radix : ℕ) (ds : List ℕ) (b : Bool) → is_numeral radix ds ≡ b → ¬ (IsNumeral radix ds × (digits_value radix ds < 2 ^ 64)) → None ≡ byte_written radix ds
unread radix ds false is wrong = rw is refl
unread radix ds true is wrong =
    let beyond : ¬ (digits_value radix ds < 2 ^ 64) = λ small. wrong (is_numeral-true radix ds is, small) in rw is (far (digits_value radix ds) (omega (arith, beyond)))

pub unwritten : (radix : ℕ) (ds : List ℕ) → ¬ (IsNumeral radix ds × (digits_value radix ds < 2 ^ 64)) → None ≡ byte_written radix ds
unwritten radix ds wrong = unread radix ds (is_numeral radix ds) refl wrong

-- what stands behind `0x`, if that begins a text
begins : (text digits : List ℕ) → StripsPrefix (FindsTextPrefix (codes "0x")) text digits → (starts_with (λ a b. a == b) text (codes "0x") ≡ true) × (digits ≡ drop 2 text)
begins text digits found =
    (sym (starts_text true (codes "0x") text (found.0, found.1, subst (IsCharBoundary text) (sym found.1.0) found.1.2)), found.2 ∙ ap (λ (k : ℕ). drop k text) found.1.0)

pub named_by_hex : (text digits : List ℕ) (r : Option ℕ) → StripsPrefix (FindsTextPrefix (codes "0x")) text digits → r ≡ byte_written 16 (without_leading_plus digits) → r ≡ byte_named text
named_by_hex text digits r found is =
    let parts = begins text digits found in is ∙ ap (λ t. byte_written 16 (without_leading_plus t)) parts.1 ∙ rw parts.0 refl

pub named_by_decimal : (text : List ℕ) (r : Option ℕ) → FindsTextPrefix (codes "0x") text None → r ≡ byte_written 10 (without_leading_plus text) → r ≡ byte_named text
named_by_decimal text r none is = let other : starts_with (λ a b. a == b) text (codes "0x") ≡ false = sym (starts_text false (codes "0x") text none) in is ∙ rw other refl

-- bits taken out of a number and put into it, by masks and shifts
use Rattle.std.proofs.Common.{◌≡◌, ℕ, ◌+◌, ◌*◌, ◌-◌, ◌/◌, ◌%◌, ◌^◌, ◌<◌, ◌≤◌, arith, ap, ◌∙◌, sym, bit_and, Bool, true, ◌==◌, ◌&&◌}
use Rattle.std.proofs.lemmas.Nat.{pow-add, one_shl, and_mask, and-not, shl_whole, pow_pos, mod_below, shr_split, shr_below, mul-add-lt, and_comm, mod-pow-add}
use Rattle.std.proofs.lemmas.Nat.Bits.{and_high}
use Rattle.std.proofs.lemmas.Bool.Decides.{nat_tests}
use Rattle.mix_word.specs.Prelude.{Sign, WordValue, word, FieldValue, field, put_field_of}
use Rattle.mix_word.specs.Packed.{word_of_bits, bits_of_word}
use Rattle.mix_word.proofs.Powers.{six_bits}

pub mask_is : (bits : ℕ) → bits ≤ 30 → (1 * 2 ^ bits) % 2 ^ 32 - 1 ≡ 2 ^ bits - 1
mask_is bits h = ap (λ (n : ℕ). n - 1) (one_shl bits 32 (omega arith))

pub and_mask_at : (n mask bits : ℕ) → mask ≡ 2 ^ bits - 1 → bit_and n mask ≡ n % 2 ^ bits
and_mask_at n mask bits e = ap (λ (k : ℕ). bit_and n k) e ∙ and_mask n bits

-- a mask of so many ones above the lowest bits
high_mask : (below bits : ℕ) → below + bits ≤ 30 → (1 * 2 ^ bits % 2 ^ 32 - 1) * 2 ^ below % 2 ^ 32 ≡ 2 ^ (bits + below) - 2 ^ below
high_mask below bits h =
    let whole : ((2 ^ bits - 1) * 2 ^ below) % 2 ^ 32 ≡ (2 ^ bits - 1) * 2 ^ below =
    shl_whole (2 ^ bits - 1) bits below 32 (omega (arith, pow_pos bits)) (omega arith) in
    let one_more : 2 ^ bits - 1 + 1 ≡ 2 ^ bits = omega (arith, pow_pos bits) in
    let times : (2 ^ bits - 1 + 1) * 2 ^ below ≡ 2 ^ bits * 2 ^ below = ap (λ (n : ℕ). n * 2 ^ below) one_more in
    let difference : (2 ^ bits - 1) * 2 ^ below ≡ 2 ^ (bits + below) - 2 ^ below = omega (arith, times, pow-add 2 bits below) in
    ap (λ (n : ℕ). n * 2 ^ below % 2 ^ 32) (mask_is bits (omega arith)) ∙ whole ∙ difference

-- what is kept of a number, beside the bits that are replaced
pub kept_is : (m below bits : ℕ) → below + bits ≤ 30 → m < 2 ^ 30 → bit_and m (4294967295 - (1 * 2 ^ bits % 4294967296 - 1) * 2 ^ below % 4294967296) + m / 2 ^ below % 2 ^ bits * 2 ^ below ≡ m
kept_is m below bits within bound =
    let mask : ℕ = (1 * 2 ^ bits % 2 ^ 32 - 1) * 2 ^ below % 2 ^ 32 in
    let small : mask < 2 ^ 32 = mod_below _ (2 ^ 32) (omega arith) in
    let parts : bit_and (2 ^ 32 - 1 - mask) m + bit_and mask m ≡ m = and-not 32 mask m small (omega arith) in
    let high : bit_and m mask ≡ m / 2 ^ below % 2 ^ bits * 2 ^ below =
    ap (λ (k : ℕ). bit_and m k) (high_mask below bits within) ∙ and_high m bits below in
    omega (arith, parts, high, and_comm m mask, and_comm m (2 ^ 32 - 1 - mask))

-- the bits that are put in
pub new_is : (v below bits : ℕ) → below + bits ≤ 30 → bit_and v (1 * 2 ^ bits % 4294967296 - 1) * 2 ^ below % 4294967296 ≡ v % 2 ^ bits * 2 ^ below
new_is v below bits within =
    ap (λ (n : ℕ). n * 2 ^ below % 2 ^ 32) (and_mask_at v _ bits (mask_is bits (omega arith)))
    ∙ shl_whole (v % 2 ^ bits) bits below 32 (mod_below v (2 ^ bits) (pow_pos bits)) (omega arith)

-- the bits above, those put in and those below are 30 together
pub new_fits : (m v below bits : ℕ) → below + bits ≤ 30 → m < 2 ^ 30 → m + v % 2 ^ bits * 2 ^ below < 2 ^ 30 + m / 2 ^ below % 2 ^ bits * 2 ^ below
new_fits m v below bits within bound =
    let low : m % 2 ^ below < 2 ^ below = mod_below m (2 ^ below) (pow_pos below) in
    let g : v % 2 ^ bits < 2 ^ bits = mod_below v (2 ^ bits) (pow_pos bits) in
    let inner : v % 2 ^ bits * 2 ^ below + m % 2 ^ below < 2 ^ below * 2 ^ bits =
    mul-add-lt (v % 2 ^ bits) (2 ^ below) (m % 2 ^ below) (2 ^ bits) g low in
    let inner_pow : v % 2 ^ bits * 2 ^ below + m % 2 ^ below < 2 ^ (bits + below) = omega (arith, inner, pow-add 2 bits below) in
    let rest : 30 - (bits + below) + (bits + below) ≡ 30 = omega arith in
    let upper : m / 2 ^ (bits + below) < 2 ^ (30 - (bits + below)) =
    shr_below m (30 - (bits + below)) (bits + below) (rw rest bound) in
    let all : m / 2 ^ (bits + below) * 2 ^ (bits + below) + (v % 2 ^ bits * 2 ^ below + m % 2 ^ below) < 2 ^ (bits + below) * 2 ^ (30 - (bits + below)) =
    mul-add-lt _ (2 ^ (bits + below)) _ (2 ^ (30 - (bits + below))) upper inner_pow in
    let product : 2 ^ 30 ≡ 2 ^ (30 - (bits + below)) * 2 ^ (bits + below) =
    ap (λ (n : ℕ). 2 ^ n) (sym rest) ∙ pow-add 2 (30 - (bits + below)) (bits + below) in
    omega (arith, all, product, shr_split m (bits + below), mod-pow-add m bits below)

-- in the field of the whole word a store leaves what is stored
whole_of : (s t : Sign) (m n l r : ℕ) → l ≡ 0 → r ≡ 5 → m < 2 ^ 30 → n < 2 ^ 30 → word t n ≡ put_field_of (word s m) (field l r) (word t n)
whole_of s t m n l r left right old new = rw (left, right) (ap (word t) (omega arith))

pub fits : (v : WordValue) → word_of_bits (bits_of_word v) ≡ v → v.magnitude < 2 ^ 30
fits v e = omega (arith, ap (λ (w : WordValue). w.magnitude) e)

pub whole_put : (w v : WordValue) (f : FieldValue) (b : Bool) → b ≡ true → b ≡ (f.left == 0 && f.right == 5) → w.magnitude < 2 ^ 30 → v.magnitude < 2 ^ 30 → v ≡ put_field_of w f v
whole_put w v f b is_true e old new =
    let left : f.left ≡ 0 = grind (arith, nat_tests) in
    let right : f.right ≡ 5 = grind (arith, nat_tests) in
    whole_of w.sign v.sign w.magnitude v.magnitude f.left f.right left right old new

pub ruleset masks = (mask_is, and_mask_at, one_shl, pow_pos)

pub ruleset fields = (six_bits)

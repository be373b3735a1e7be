-- ten bytes moved by bits
use Rattle.std.proofs.Common.{◌≡◌, ℕ, ◌+◌, ◌*◌, ◌-◌, ◌/◌, ◌%◌, ◌^◌, ◌<◌, ◌≤◌, arith, ap, ◌∙◌, sym, bit_and}
use Rattle.std.proofs.lemmas.Nat.{pow-add, pow_pos, and_mask, mod-pow-add, mod-mul-add, div_below, mul-add-lt, mod_below, div-add-mod'}
use Rattle.mix_word.proofs.Powers.{six_bits}

positive : (k : ℕ) → 0 < 64 ^ k
positive k = rw (six_bits k) (pow_pos (6 * k))

-- to cut at 60 bits what was cut at 64 is to cut it at 60
cut_twice : (n : ℕ) → n % 2 ^ 64 % 2 ^ 60 ≡ n % 2 ^ 60
cut_twice n =
    ap (λ (k : ℕ). k % 2 ^ 60) (mod-pow-add n 4 60)
    ∙ mod-mul-add (n / 2 ^ 60 % 2 ^ 4) (2 ^ 60) (n % 2 ^ 60) (mod_below n (2 ^ 60) (omega arith))

pub moved_left : (n m : ℕ) → bit_and (n * 2 ^ (6 * m) % 18446744073709551616) 1152921504606846975 ≡ n * 64 ^ m % 1152921504606846976
moved_left n m =
    and_mask (n * 2 ^ (6 * m) % 2 ^ 64) 60 ∙ cut_twice (n * 2 ^ (6 * m))
    ∙ ap (λ (k : ℕ). n * k % 2 ^ 60) (sym (six_bits m))

-- ten bytes or more: nothing is left
pub all_out_left : (n m : ℕ) → 10 ≤ m → 0 ≡ n * 64 ^ m % 1152921504606846976
all_out_left n m h =
    let rest : m - 10 + 10 ≡ m = omega arith in
    let power : 64 ^ m ≡ 64 ^ (m - 10) * 64 ^ 10 = ap (λ (k : ℕ). 64 ^ k) (sym rest) ∙ pow-add 64 (m - 10) 10 in
    let product : n * 64 ^ m ≡ n * 64 ^ (m - 10) * 64 ^ 10 + 0 = omega (arith, ap (λ (k : ℕ). n * k) power) in
    sym (ap (λ (k : ℕ). k % 64 ^ 10) product ∙ mod-mul-add (n * 64 ^ (m - 10)) (64 ^ 10) 0 (omega arith))

pub all_out_right : (n m : ℕ) → n < 1152921504606846976 → 10 ≤ m → 0 ≡ n / 64 ^ m
all_out_right n m small h =
    let rest : m - 10 + 10 ≡ m = omega arith in
    let power : 64 ^ m ≡ 64 ^ (m - 10) * 64 ^ 10 = ap (λ (k : ℕ). 64 ^ k) (sym rest) ∙ pow-add 64 (m - 10) 10 in
    let large : 64 ^ 10 ≤ 64 ^ m = omega (arith, power, positive (m - 10)) in
    let below : n / 64 ^ m < 1 = div_below n (64 ^ m) 1 (positive m) (omega arith) in
    omega arith

-- what comes in on the right fits below what is moved to the left
pub turned_fits : (n k : ℕ) → n < 1152921504606846976 → k < 10 → n * 64 ^ k % 1152921504606846976 + n / 64 ^ (10 - k) < 1152921504606846976
turned_fits n k small h =
    let high : ℕ = n / 64 ^ (10 - k) in
    let low : ℕ = n % 64 ^ (10 - k) in
    let rest : k + (10 - k) ≡ 10 = omega arith in
    let power : 64 ^ 10 ≡ 64 ^ k * 64 ^ (10 - k) = ap (λ (i : ℕ). 64 ^ i) (sym rest) ∙ pow-add 64 k (10 - k) in
    let low_below : low < 64 ^ (10 - k) = mod_below n (64 ^ (10 - k)) (positive (10 - k)) in
    let high_below : high < 64 ^ k = div_below n (64 ^ (10 - k)) (64 ^ k) (positive (10 - k)) (rw (← power) small) in
    let sum_below : low * 64 ^ k + high < 64 ^ k * 64 ^ (10 - k) = mul-add-lt low (64 ^ k) high (64 ^ (10 - k)) low_below high_below in
    let low_moved : low * 64 ^ k < 64 ^ 10 = omega (arith, sum_below, power) in
    let split : n ≡ high * 64 ^ (10 - k) + low = sym (div-add-mod' n (64 ^ (10 - k))) in
    let product : n * 64 ^ k ≡ high * 64 ^ 10 + low * 64 ^ k =
    omega (arith, ap (λ (i : ℕ). i * 64 ^ k) split, ap (λ (i : ℕ). high * i) power) in
    let moved : n * 64 ^ k % 64 ^ 10 ≡ low * 64 ^ k =
    ap (λ (i : ℕ). i % 64 ^ 10) product ∙ mod-mul-add high (64 ^ 10) (low * 64 ^ k) low_moved in
    omega (arith, moved, sum_below, power)

pub ruleset moves = (moved_left, all_out_left, all_out_right, turned_fits, six_bits)

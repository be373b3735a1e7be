-- powers of 64 as powers of 2: a byte is six bits
use Rattle.std.proofs.Common.{◌≡◌, ℕ, zero, suc, ◌*◌, ◌-◌, ◌/◌, ◌%◌, ◌^◌, arith, refl}
use Rattle.std.proofs.lemmas.Nat.{pow-add}

pub six_bits : (k : ℕ) → 64 ^ k ≡ 2 ^ (6 * k)
six_bits zero = refl
six_bits (suc k) = grind (arith, six_bits k, pow-add 2 6 (6 * k))

pub byte_by_shift : (m i s : ℕ) → s ≡ 6 * (5 - i) → m / 2 ^ s % 64 ≡ m / 64 ^ (5 - i) % 64
byte_by_shift m i s e = grind (arith, six_bits (5 - i))

-- The words of the registers in a list, each at its register's number.
use Rattle.std.proofs.Common.{◌≡◌, ◌<◌, ◌≤◌, ◌+◌, ℕ, zero, suc, List, get_or, refl, arith}
use Rattle.std.proofs.lemmas.Bool.Decides.{nat_tests}
use Rattle.mix_word.specs.Prelude.{WordValue, zero_word, number_of_register}
use Rattle.mix_word.specs.declared.register.Reg.{Reg}
use Rattle.mix_word.specs.declared.register.Reg.TheVariants.{A, X, I1, I2, I3, I4, I5, I6, J}
use Rattle.mix_machine.specs.Registers.{RegistersState, AreRegisters, registers_in, held_in, index_in}

-- what a register holds stands at its number
pub register-at : (words : List WordValue) (r : Reg) → get_or words (number_of_register r) zero_word ≡ held_in (registers_in words) r
register-at words A = refl
register-at words X = refl
register-at words I1 = refl
register-at words I2 = refl
register-at words I3 = refl
register-at words I4 = refl
register-at words I5 = refl
register-at words I6 = refl
register-at words J = refl

pub ruleset register_at = (register-at)

-- what an index register holds stands after rA and rX, and there are six of them
pub index-at : (words : List WordValue) (i : ℕ) → 1 ≤ i → i ≤ 6 → get_or words (i + 1) zero_word ≡ index_in (registers_in words) i
index-at words zero l h = absurd (omega arith)
index-at words (suc zero) l h = refl
index-at words (suc (suc zero)) l h = refl
index-at words (suc (suc (suc zero))) l h = refl
index-at words (suc (suc (suc (suc zero)))) l h = refl
index-at words (suc (suc (suc (suc (suc zero))))) l h = refl
index-at words (suc (suc (suc (suc (suc (suc zero)))))) l h = refl
index-at words (suc (suc (suc (suc (suc (suc (suc n))))))) l h = absurd (omega arith)

pub no-index : (r : RegistersState) (i : ℕ) → 6 < i → index_in r i ≡ zero_word
no-index r i h = grind (arith, nat_tests)

pub ruleset index_at = (index-at, no-index)

-- two bytes, as each index register
pub index-bound : (r : RegistersState) (i : ℕ) → AreRegisters r → (index_in r i).magnitude < 4096
index-bound r i h = grind (arith, nat_tests, h.i1, h.i2, h.i3, h.i4, h.i5, h.i6)

pub ruleset index_bound = (index-bound)

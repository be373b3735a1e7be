-- The registers of a row of eight operation codes, each at its place in the row.
use Rattle.std.proofs.Common.{◌≡◌, [], ◌∷◌, get_or, refl}
use Rattle.mix_word.specs.Prelude.{offset_of, reg_of, Reg, DataReg, A, I1, I2, I3, I4, I5, I6, X}
use Rattle.mix_word.specs.declared.register.Reg.TheVariants as reg

pub register-in-row : (r : DataReg) (d : Reg) →
    get_or (reg.A ∷ reg.I1 ∷ reg.I2 ∷ reg.I3 ∷ reg.I4 ∷ reg.I5 ∷ reg.I6 ∷ reg.X ∷ []) (offset_of r) d ≡ reg_of r
register-in-row A d = refl
register-in-row I1 d = refl
register-in-row I2 d = refl
register-in-row I3 d = refl
register-in-row I4 d = refl
register-in-row I5 d = refl
register-in-row I6 d = refl
register-in-row X d = refl

pub ruleset register_in_row = (register-in-row)

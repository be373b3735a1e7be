-- The registers (1.3.1): their order, numbers and names, and those that operations load, store and compare.
use Rattle.std.specs.Prelude.{ℕ, List, [], ◌∷◌, codes, Option}
use Rattle.std.specs.List.{find}
use Rattle.std.specs.Str.{bytes_eq}
use Rattle.mix_word.specs.declared.register.Reg.{Reg}
use Rattle.mix_word.specs.declared.register.Reg.TheVariants as reg
use Rattle.mix_word.specs.declared.register.DataReg.{DataReg}
use Rattle.mix_word.specs.declared.register.DataReg.TheVariants.{A, I1, I2, I3, I4, I5, I6, X}

-- the nine registers, in the order in which they are listed and numbered
abbrev pub all_registers : List Reg
all_registers = reg.A ∷ reg.X ∷ reg.I1 ∷ reg.I2 ∷ reg.I3 ∷ reg.I4 ∷ reg.I5 ∷ reg.I6 ∷ reg.J ∷ []

-- the number of a register in that order
abbrev pub number_of_register : Reg → ℕ
number_of_register reg.A = 0
number_of_register reg.X = 1
number_of_register reg.I1 = 2
number_of_register reg.I2 = 3
number_of_register reg.I3 = 4
number_of_register reg.I4 = 5
number_of_register reg.I5 = 6
number_of_register reg.I6 = 7
number_of_register reg.J = 8

-- the name without the r that the book puts before it
abbrev pub name_of_register : Reg → List ℕ
name_of_register reg.A = codes "A"
name_of_register reg.X = codes "X"
name_of_register reg.I1 = codes "I1"
name_of_register reg.I2 = codes "I2"
name_of_register reg.I3 = codes "I3"
name_of_register reg.I4 = codes "I4"
name_of_register reg.I5 = codes "I5"
name_of_register reg.I6 = codes "I6"
name_of_register reg.J = codes "J"

-- the register of a name in capitals
abbrev pub register_named : List ℕ → Option Reg
register_named name = find (λ r. bytes_eq (name_of_register r) name) all_registers

-- the place of a register in a row of eight operation codes
abbrev pub offset_of : DataReg → ℕ
offset_of A = 0
offset_of I1 = 1
offset_of I2 = 2
offset_of I3 = 3
offset_of I4 = 4
offset_of I5 = 5
offset_of I6 = 6
offset_of X = 7

abbrev pub reg_of : DataReg → Reg
reg_of A = reg.A
reg_of I1 = reg.I1
reg_of I2 = reg.I2
reg_of I3 = reg.I3
reg_of I4 = reg.I4
reg_of I5 = reg.I5
reg_of I6 = reg.I6
reg_of X = reg.X

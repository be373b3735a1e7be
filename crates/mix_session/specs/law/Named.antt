-- Each keyword is the one that its name names.
use Rattle.std.specs.Prelude.{◌≡◌, Some, refl}
use Rattle.mix_word.specs.declared.register.Reg.TheVariants as reg
use Rattle.mix_session.specs.Keyword.{keyword_named, set_name, all_sets, until_name, all_untils}
use Rattle.mix_session.specs.declared.keyword.target.SetWord.{SetWord}
use Rattle.mix_session.specs.declared.keyword.target.SetWord.TheVariants.{Register, Cell, Location, Toggle, Indicator}
use Rattle.mix_session.specs.declared.keyword.target.UntilWord.{UntilWord}
use Rattle.mix_session.specs.declared.keyword.target.UntilWord.TheVariants as until

pub set_named : (k : SetWord) → keyword_named set_name all_sets (set_name k) ≡ Some k
set_named (Register reg.A) = refl
set_named (Register reg.X) = refl
set_named (Register reg.I1) = refl
set_named (Register reg.I2) = refl
set_named (Register reg.I3) = refl
set_named (Register reg.I4) = refl
set_named (Register reg.I5) = refl
set_named (Register reg.I6) = refl
set_named (Register reg.J) = refl
set_named Cell = refl
set_named Location = refl
set_named Toggle = refl
set_named Indicator = refl

pub until_named : (k : UntilWord) → keyword_named until_name all_untils (until_name k) ≡ Some k
until_named (until.Set (Register reg.A)) = refl
until_named (until.Set (Register reg.X)) = refl
until_named (until.Set (Register reg.I1)) = refl
until_named (until.Set (Register reg.I2)) = refl
until_named (until.Set (Register reg.I3)) = refl
until_named (until.Set (Register reg.I4)) = refl
until_named (until.Set (Register reg.I5)) = refl
until_named (until.Set (Register reg.I6)) = refl
until_named (until.Set (Register reg.J)) = refl
until_named (until.Set Cell) = refl
until_named (until.Set Location) = refl
until_named (until.Set Toggle) = refl
until_named (until.Set Indicator) = refl
until_named until.Unit = refl
until_named until.Conflict = refl

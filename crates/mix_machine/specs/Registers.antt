-- The nine registers (1.3.1): what each holds, and what it can hold.
use Rattle.std.specs.Prelude.{ℕ, ◌≡◌, ◌<◌, Bool, true, ◌==◌, ◌&&◌, nat_lt, List, slice_index_or, if◌then◌else◌}
use Rattle.mix_word.specs.declared.register.Reg.{Reg}
use Rattle.mix_word.specs.declared.word.Sign.TheVariants.{Plus}
use Rattle.mix_word.specs.Word.{WordValue, zero_word, is_plus}
use Rattle.mix_word.specs.declared.register.Reg.TheVariants.{A, X, I1, I2, I3, I4, I5, I6, J}

-- what each of them holds
pub record RegistersState : Type 0 where
  pub a : WordValue
  pub x : WordValue
  pub i1 : WordValue
  pub i2 : WordValue
  pub i3 : WordValue
  pub i4 : WordValue
  pub i5 : WordValue
  pub i6 : WordValue
  pub j : WordValue

-- the registers whose words stand in a list at their numbers
abbrev pub registers_in : List WordValue → RegistersState
registers_in words =
    record {
      a = slice_index_or words 0 zero_word;
      x = slice_index_or words 1 zero_word;
      i1 = slice_index_or words 2 zero_word;
      i2 = slice_index_or words 3 zero_word;
      i3 = slice_index_or words 4 zero_word;
      i4 = slice_index_or words 5 zero_word;
      i5 = slice_index_or words 6 zero_word;
      i6 = slice_index_or words 7 zero_word;
      j = slice_index_or words 8 zero_word;
    }

-- what a register holds
abbrev pub held_in : RegistersState → Reg → WordValue
held_in r A = r.a
held_in r X = r.x
held_in r I1 = r.i1
held_in r I2 = r.i2
held_in r I3 = r.i3
held_in r I4 = r.i4
held_in r I5 = r.i5
held_in r I6 = r.i6
held_in r J = r.j

-- the index register rIi, and +0 where i is 0
abbrev pub index_in : RegistersState → ℕ → WordValue
index_in r i =
    if i == 1 then r.i1 else
    if i == 2 then r.i2 else
    if i == 3 then r.i3 else
    if i == 4 then r.i4 else
    if i == 5 then r.i5 else
    if i == 6 then r.i6 else zero_word

-- the same registers but for one
abbrev pub with_register : RegistersState → Reg → WordValue → RegistersState
with_register r A v = record r { a = v }
with_register r X v = record r { x = v }
with_register r I1 v = record r { i1 = v }
with_register r I2 v = record r { i2 = v }
with_register r I3 v = record r { i3 = v }
with_register r I4 v = record r { i4 = v }
with_register r I5 v = record r { i5 = v }
with_register r I6 v = record r { i6 = v }
with_register r J v = record r { j = v }

-- all of them +0
abbrev pub blank_registers : RegistersState
blank_registers =
    record {
      a = zero_word;
      x = zero_word;
      i1 = zero_word;
      i2 = zero_word;
      i3 = zero_word;
      i4 = zero_word;
      i5 = zero_word;
      i6 = zero_word;
      j = zero_word;
    }

-- whether a register can hold a word: an index register has two bytes, and rJ the sign + besides
abbrev pub fits_register : Reg → WordValue → Bool
fits_register A v = true
fits_register X v = true
fits_register I1 v = nat_lt v.magnitude 4096
fits_register I2 v = nat_lt v.magnitude 4096
fits_register I3 v = nat_lt v.magnitude 4096
fits_register I4 v = nat_lt v.magnitude 4096
fits_register I5 v = nat_lt v.magnitude 4096
fits_register I6 v = nat_lt v.magnitude 4096
fits_register J v = nat_lt v.magnitude 4096 && is_plus v.sign

-- what the registers of every machine meet
pub record AreRegisters (r : RegistersState) : Type 0 where
  pub i1 : r.i1.magnitude < 4096
  pub i2 : r.i2.magnitude < 4096
  pub i3 : r.i3.magnitude < 4096
  pub i4 : r.i4.magnitude < 4096
  pub i5 : r.i5.magnitude < 4096
  pub i6 : r.i6.magnitude < 4096
  pub j : r.j.magnitude < 4096
  pub j_sign : r.j.sign ≡ Plus

-- An F that an ADDRESS gives in numbers, and that a step refuses whatever the machine holds (1.3.1, 1.3.2).
use Rattle.std.specs.Prelude.{ℕ, ◌==◌, ◌&&◌, ◌||◌, nat_lt, not, Bool, false, List, [], ◌∷◌, is_none, is_some, Option, Some, None, Result, Ok, Err, if◌then◌else◌}
use Rattle.std.specs.List.{list_any, after_first}
use Rattle.mix_word.specs.Prelude.{zero_word, field_of, needs, unit_count, decode_of}
use Rattle.mix_word.specs.declared.operation.Operation.{Operation}
use Rattle.mix_word.specs.declared.decoding.Decoded.{Decoded}
use Rattle.mix_word.specs.declared.decoding.Decoded.TheVariants.{Named, Floating, Unknown}
use Rattle.mixal_text.specs.declared.misread.Misread.{Misread}
use Rattle.mixal_text.specs.declared.op.Op.{Op}
use Rattle.mixal_text.specs.declared.op.Op.TheVariants.{Machine}
use Rattle.mixal_text.specs.Names.{NamesValue}
use Rattle.mixal_text.specs.Part.{is_open, from_first, up_to, brackets_at}
use Rattle.mixal_text.specs.Address.{is_equals, is_delimiter}

-- ---- the F

-- what follows the A-part, which is a literal up to its second equals sign, or goes up to the first comma or opening bracket
abbrev pub after_a_part : List ℕ → List ℕ
after_a_part [] = []
after_a_part (byte ∷ rest) = if is_equals byte then after_first is_equals rest else from_first is_delimiter (byte ∷ rest)

-- no symbol has a value
abbrev pub no_names : NamesValue
no_names = record { value = λ symbol. None; back = λ digit. None }

abbrev pub is_asterisk : ℕ → Bool
is_asterisk byte = byte == 42

abbrev pub f_or_none : Result (Option ℕ) Misread → Option ℕ
f_or_none (Ok f) = f
f_or_none (Err fault) = None

-- the F in brackets, if it has neither a symbol nor an asterisk
abbrev pub f_in : List ℕ → Option ℕ
f_in brackets =
    if list_any is_asterisk brackets then None else f_or_none (brackets_at (up_to 63) no_names zero_word 0 brackets)

unfoldable pub written_f : List ℕ → Option ℕ
written_f address = f_in (from_first is_open (after_a_part address))

-- ---- whether a step takes it

-- F has to be a field, or a unit, where an operation needs one
abbrev pub has_needs : Operation → ℕ → Bool
has_needs op f = (not (needs op).operand || is_some (field_of f)) && (is_none (needs op).unit || nat_lt f unit_count)

-- a pair that names no operation of MIX is refused, and so is a floating one
abbrev pub takes_by : Decoded → ℕ → Bool
takes_by (Named op) f = has_needs op f
takes_by Floating f = false
takes_by Unknown f = false

abbrev pub takes_f : ℕ → ℕ → Bool
takes_f code f = takes_by (decode_of code f) f

abbrev pub refuses : ℕ → Option ℕ → Bool
refuses code None = false
refuses code (Some f) = not (takes_f code f)

-- ---- an instruction that can be read

abbrev pub op_refuses : Op → List ℕ → Bool
op_refuses (Machine code f) address = refuses code (written_f address)
op_refuses _ address = false

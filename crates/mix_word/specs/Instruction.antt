-- A word as a line of MIXAL gives it (1.3.1, 1.3.2): the instruction that it is, or else the constant.
use Rattle.std.specs.Prelude.{ℕ, ◌==◌, Bool, true, false, not, ◌&&◌, nat_lt, List, [], ◌∷◌, ◌++◌, codes, Option, Some, None, if◌then◌else◌}
use Rattle.std.specs.Fmt.{decimal}
use Rattle.std.specs.Option.{option_map}
use Rattle.mix_word.specs.Word.{WordValue, is_plus, parts_of}
use Rattle.mix_word.specs.Field.{field_of}
use Rattle.mix_word.specs.Operation.{normal_f_of}
use Rattle.mix_word.specs.Uses.{uses_of, needs, unit_count}
use Rattle.mix_word.specs.Names.{name_of}
use Rattle.mix_word.specs.Table.{decode_of}
use Rattle.mix_word.specs.declared.word.Sign.{Sign}
use Rattle.mix_word.specs.declared.word.Sign.TheVariants.{Plus, Minus}
use Rattle.mix_word.specs.declared.word.Parts.{Parts}
use Rattle.mix_word.specs.declared.operation.Operation.{Operation}
use Rattle.mix_word.specs.declared.decoding.Decoded.{Decoded}
use Rattle.mix_word.specs.declared.decoding.Decoded.TheVariants.{Named, Floating, Unknown}
use Rattle.mix_word.specs.declared.uses.Uses.{Uses}
use Rattle.mix_word.specs.declared.uses.Uses.TheVariants as uses
use Rattle.mix_word.specs.declared.instruction.FPart.{FPart}
use Rattle.mix_word.specs.declared.instruction.FPart.TheVariants as part

-- a magnitude with its sign: that of -0 is -0
abbrev pub signed_text : Sign → ℕ → List ℕ
signed_text Plus m = decimal m
signed_text Minus m = 45 ∷ decimal m

-- the number of a word, of which -0 is -0
unfoldable pub number_text : WordValue → List ℕ
number_text w = signed_text w.sign w.magnitude

-- how an F other than the normal one is written: as a number or as a field; there is none where it tells operations of one
-- code apart, where it is of no field, and where it is of no unit
abbrev pub other_f : Uses → ℕ → Option FPart
other_f uses.Nothing f = Some (part.Number f)
other_f uses.FAlone f = None
other_f uses.Address f = None
other_f uses.Count f = None
other_f uses.Operand f = option_map part.Field (field_of f)
other_f uses.Cells f = Some (part.Number f)
other_f (uses.Unit action) f = if nat_lt f unit_count then Some (part.Number f) else None

-- how the F of an instruction is written, if it may have this F: nothing stands for the normal one
abbrev pub f_part : Operation → ℕ → Option FPart
f_part op f = if normal_f_of op == f then Some part.Normal else other_f (uses_of op) f

-- the operation that a word names, and how its F is written
abbrev pub form_of_decoded : Decoded → ℕ → Option (Operation × FPart)
form_of_decoded (Named op) f = option_map (λ part. (op, part)) (f_part op f)
form_of_decoded Floating f = None
form_of_decoded Unknown f = None

-- the form of an instruction: none where the index is no register's, and where C and F name no operation that may have this F
unfoldable pub form_of : Parts → Option (Operation × FPart)
form_of p = if nat_lt 6 p.index then None else form_of_decoded (decode_of p.code p.f) p.f

abbrev pub f_text : FPart → List ℕ
f_text part.Normal = []
f_text (part.Number f) = codes "(" ++ decimal f ++ codes ")"
f_text (part.Field f) = codes "(" ++ decimal f.left ++ codes ":" ++ decimal f.right ++ codes ")"

abbrev pub index_text : ℕ → List ℕ
index_text i = if i == 0 then [] else codes "," ++ decimal i

-- the address, the index and the F
unfoldable pub address_text : Parts → FPart → List ℕ
address_text p part = signed_text p.sign p.address ++ index_text p.index ++ f_text part

abbrev pub is_normal : FPart → Bool
is_normal part.Normal = true
is_normal (part.Number f) = false
is_normal (part.Field f) = false

-- whether the name stands alone: nothing but 0 would follow, at an operation that has no use for an address
abbrev pub is_bare : Operation → Parts → FPart → Bool
is_bare op p part = not (needs op).address && is_plus p.sign && p.address == 0 && p.index == 0 && is_normal part

-- what follows the name
abbrev pub after_name : Operation → Parts → FPart → List ℕ
after_name op p part = if is_bare op p part then [] else 32 ∷ address_text p part

abbrev pub text_of_form : WordValue → Option (Operation × FPart) → List ℕ
text_of_form w (Some form) = name_of form.0 ++ after_name form.0 (parts_of w) form.1
text_of_form w None = codes "CON " ++ number_text w

-- the line, from its operation on
unfoldable pub instruction_text : WordValue → List ℕ
instruction_text w = text_of_form w (form_of (parts_of w))

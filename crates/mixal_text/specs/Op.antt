-- What stands in the place of OP (1.3.2): a symbolic operation of MIX, or one of the five pseudo-operations; and where ADDRESS is.
use Rattle.std.specs.Prelude.{ℕ, Bool, not, ◌&&◌, List, [], Option, Some, is_some, option_map, ok_or, Result, Err, codes, if◌then◌else◌}
use Rattle.std.specs.List.{list_all}
use Rattle.std.specs.Char.{is_ascii_alphabetic}
use Rattle.std.specs.Str.{bytes_eq, str_to_ascii_uppercase}
use Rattle.mix_word.specs.Prelude.{needs, operation_named, character_code}
use Rattle.mix_word.specs.declared.operation.Operation.{Operation}
use Rattle.mix_lines.specs.Lines.{begins_with}
use Rattle.mixal_text.specs.declared.fault.TextFault.{TextFault}
use Rattle.mixal_text.specs.declared.fault.TextFault.TheVariants.{BadByte, NoSuchOperation}
use Rattle.mixal_text.specs.Words.{first_word}
use Rattle.mixal_text.specs.declared.op.Mnemonic.{Mnemonic}
use Rattle.mixal_text.specs.declared.op.Mnemonic.TheVariants.{Machine, Equ, Orig, Con, Alf, End}

-- the operation of a name in capitals
unfoldable pub mnemonic_of : List ℕ → Option Mnemonic
mnemonic_of name =
    if bytes_eq name (codes "EQU") then Some Equ
    else (if bytes_eq name (codes "ORIG") then Some Orig
    else (if bytes_eq name (codes "CON") then Some Con
    else (if bytes_eq name (codes "ALF") then Some Alf
    else (if bytes_eq name (codes "END") then Some End
    else option_map Machine (operation_named name)))))

-- whether what follows an operation is a remark where it begins with a letter: NUM, CHAR and HLT have no use for an address
abbrev pub is_without_operand : Operation → Bool
is_without_operand op = (needs op).by_f && not (needs op).address

-- whether each byte is a MIX character
abbrev pub are_characters : List ℕ → Bool
are_characters text = list_all (λ byte. is_some (character_code byte)) text

-- OP, in either case of letters
unfoldable pub op_of : List ℕ → Result Mnemonic TextFault
op_of name =
    if are_characters name then ok_or (mnemonic_of (str_to_ascii_uppercase name)) NoSuchOperation else Err BadByte

-- the ADDRESS of a symbolic operation, by what stands after OP; a remark is none
abbrev pub address_after : Operation → List ℕ → List ℕ
address_after operation rest =
    if is_without_operand operation && begins_with is_ascii_alphabetic (first_word rest) then [] else first_word rest

-- What a line that is accepted leaves: one row more, and no literal has its place.
use Rattle.std.proofs.Common.{◌≡◌, ℕ, suc, ◌+◌, ◌<◌, ◌&&◌, Bool, true, false, List, [], ◌∷◌, ◌++◌, length, Option, Some, None, refl, sym, ap, subst, ◌∙◌, arith, length-append, add-one}
use Rattle.std.specs.Prelude.{nat_lt, nat_le, Result, Ok, Err}
use Rattle.mix_word.specs.Word.{WordValue, plus}
use Rattle.mixal_text.specs.Prelude.{◌>>=◌, w_value_of, APartValue, address_of}
use Rattle.mixal_text.specs.declared.label.Label.{Label}
use Rattle.mixal_text.specs.Address as apart
use Rattle.mixal_asm.specs.Prelude.{AsmKind, Key, HasNoLiteral, IsReady}
use Rattle.mixal_asm.specs.declared.fault.AsmKind.TheVariants.{AddressTooLarge, LocationOutOfRange}
use Rattle.mixal_asm.specs.declared.row.Shows.{Shows}
use Rattle.mixal_asm.specs.declared.row.Shows.TheVariants as shows
use Rattle.mixal_asm.specs.declared.key.Key.TheVariants as key
use Rattle.mixal_asm.specs.PassOne.{Before, with_name, with_loc, with_word, with_instruction, with_address, instruction, with_line, number_after, name_of, is_awaited, names_at, of_address, location_of, locals_in, machine_line, equ_line, orig_line, con_line, alf_line}
use Rattle.mixal_asm.proofs.LineLemmas.{no_literal_loc}

-- a step that was accepted, and what followed
bind_ok : {A B E : Type 0} (r : Result A E) (f : A → Result B E) (y : B) → (r >>= f) ≡ Ok y → (x : A) × (r ≡ Ok x) × (f x ≡ Ok y)
bind_ok (Ok x) f y is = (x, refl, is)
bind_ok (Err e) f y is = cc

-- ---- the steps leave the rows

name_rows-step : (b named : Before) (name : Key) (value : WordValue) (t : Bool) → (is_awaited name b.emitted && nat_le 4096 value.magnitude) ≡ t
    → with_name b name value ≡ Ok named → named.rows ≡ b.rows
name_rows-step b named name value true is ok = let refused : with_name b name value ≡ Err AddressTooLarge = rw is refl in let clash = sym refused ∙ ok in cc
name_rows-step b named name value false is ok =
    let given : with_name b name value ≡ Ok (record b { names = b.names ++ (name, value) ∷ [] }) = rw is refl in
    let same = sym given ∙ ok in
    let whole : record b { names = b.names ++ (name, value) ∷ [] } ≡ named = cc in
    sym (ap (λ (d : Before). d.rows) whole)

loc_rows : (b named : Before) (loc : Option Label) (value : WordValue) → with_loc b loc value ≡ Ok named → named.rows ≡ b.rows
loc_rows b named None value ok = let same : b ≡ named = cc in sym (ap (λ (d : Before). d.rows) same)
loc_rows b named (Some loc) value ok =
    name_rows-step b named (name_of b.names loc) value (is_awaited (name_of b.names loc) b.emitted && nat_le 4096 value.magnitude) refl ok

record Kept (b next : Before) : Type 0 where
  rows : next.rows ≡ b.rows
  names : next.names ≡ b.names

word_kept-step : (b next : Before) (word : WordValue) (awaits : Option Key) (t : Bool) → nat_lt b.here 4000 ≡ t
    → with_word b word awaits ≡ Ok next → Kept b next
word_kept-step b next word awaits false is ok = let refused : with_word b word awaits ≡ Err LocationOutOfRange = rw is refl in let clash = sym refused ∙ ok in cc
word_kept-step b next word awaits true is ok =
    let given : with_word b word awaits ≡ Ok (record b { here = b.here + 1; emitted = b.emitted ++ record { place = b.here; word = word; awaits = awaits } ∷ [] }) = rw is refl in
    let same = sym given ∙ ok in
    let whole : record b { here = b.here + 1; emitted = b.emitted ++ record { place = b.here; word = word; awaits = awaits } ∷ [] } ≡ next = cc in
    record { rows = sym (ap (λ (d : Before). d.rows) whole); names = sym (ap (λ (d : Before). d.names) whole) }

word_kept : (b next : Before) (word : WordValue) (awaits : Option Key) → with_word b word awaits ≡ Ok next → Kept b next
word_kept b next word awaits ok = word_kept-step b next word awaits (nat_lt b.here 4000) refl ok

value_kept : (b next : Before) (word value : WordValue) (t : Bool) → nat_le 4096 value.magnitude ≡ t
    → with_instruction b word (apart.Value value) ≡ Ok next → Kept b next
value_kept b next word value true is ok =
    let refused : with_instruction b word (apart.Value value) ≡ Err AddressTooLarge = rw is refl in let clash = sym refused ∙ ok in cc
value_kept b next word value false is ok =
    let given : with_instruction b word (apart.Value value) ≡ with_word b (with_address word value) None = rw is refl in
    word_kept b next (with_address word value) None (sym given ∙ ok)

instruction_kept : (b next : Before) (word : WordValue) (a : APartValue) → with_instruction b word a ≡ Ok next → Kept b next
instruction_kept b next word (apart.Value value) ok = value_kept b next word value (nat_le 4096 value.magnitude) refl ok
instruction_kept b next word (apart.Name symbol) ok = word_kept b next word (Some (key.Name symbol)) ok
instruction_kept b next word (apart.Ahead d) ok = word_kept b next word (Some (key.Local d (locals_in d b.names))) ok
instruction_kept b next word (apart.Literal text) ok =
    let kept = word_kept (record b { literals = b.literals ++ text ∷ [] }) next word (Some (key.Literal (length b.literals))) ok in
    record { rows = kept.rows; names = kept.names }

-- ---- the lines

pub record IsNext (b next : Before) : Type 0 where
  unplaced : HasNoLiteral next.names
  lines : length next.rows ≡ suc (length b.rows)

abbrev accepted : Before → Result Before AsmKind
accepted b = Ok b

-- the row of the line on what its steps left
rowed : (b next last : Before) (number : ℕ) (text : List ℕ) (shown : Shows) → next.rows ≡ b.rows → HasNoLiteral next.names
    → accepted (with_line next number text shown) ≡ Ok last → IsNext b last
rowed b next last number text shown rows none is =
    let whole : with_line next number text shown ≡ last = cc in
    record {
      unplaced = subst (λ (d : Before). HasNoLiteral d.names) whole none;
      lines = sym (ap (λ (d : Before). length d.rows) whole) ∙ length-append next.rows _ ∙ add-one (length next.rows) ∙ ap (λ (n : ℕ). suc n) (ap length rows);
    }

pub machine_next : (b last : Before) (text : List ℕ) (loc : Option Label) (code f : ℕ) (address : List ℕ) → machine_line b text loc code f address ≡ Ok last
    → HasNoLiteral b.names → IsNext b last
unfolding machine_line
machine_next b last text loc code f address is none =
    let named = bind_ok (with_loc b loc (plus b.here)) _ last is in
    let operand = bind_ok (of_address text (address_of (names_at b.names named.0.names) (plus named.0.here) f address)) _ last named.2 in
    let next = bind_ok (with_instruction named.0 (instruction code operand.0) operand.0.a) _ last operand.2 in
    let kept = instruction_kept named.0 next.0 (instruction code operand.0) operand.0.a next.1 in
    rowed b next.0 last (number_after b) text (shows.Word (length b.emitted)) (kept.rows ∙ loc_rows b named.0 loc (plus b.here) named.1)
    (rw kept.names (no_literal_loc b named.0 loc (plus b.here) named.1 none)) next.2

pub equ_next : (b last : Before) (text : List ℕ) (loc : Option Label) (address : List ℕ) → equ_line b text loc address ≡ Ok last → HasNoLiteral b.names → IsNext b last
unfolding equ_line
equ_next b last text loc address is none =
    let value = bind_ok (of_address text (w_value_of (names_at b.names b.names) (plus b.here) address)) _ last is in
    let named = bind_ok (with_loc b loc value.0) _ last value.2 in
    rowed b named.0 last (number_after b) text (shows.Value value.0) (loc_rows b named.0 loc value.0 named.1)
    (no_literal_loc b named.0 loc value.0 named.1 none) named.2

pub orig_next : (b last : Before) (text : List ℕ) (loc : Option Label) (address : List ℕ) → orig_line b text loc address ≡ Ok last → HasNoLiteral b.names → IsNext b last
unfolding orig_line
orig_next b last text loc address is none =
    let named = bind_ok (with_loc b loc (plus b.here)) _ last is in
    let value = bind_ok (of_address text (w_value_of (names_at b.names named.0.names) (plus named.0.here) address)) _ last named.2 in
    let here = bind_ok (location_of value.0) _ last value.2 in
    rowed b (record named.0 { here = here.0 }) last (number_after b) text shows.Nothing (loc_rows b named.0 loc (plus b.here) named.1)
    (no_literal_loc b named.0 loc (plus b.here) named.1 none) here.2

pub con_next : (b last : Before) (text : List ℕ) (loc : Option Label) (address : List ℕ) → con_line b text loc address ≡ Ok last → HasNoLiteral b.names → IsNext b last
unfolding con_line
con_next b last text loc address is none =
    let named = bind_ok (with_loc b loc (plus b.here)) _ last is in
    let value = bind_ok (of_address text (w_value_of (names_at b.names named.0.names) (plus named.0.here) address)) _ last named.2 in
    let next = bind_ok (with_word named.0 value.0 None) _ last value.2 in
    let kept = word_kept named.0 next.0 value.0 None next.1 in
    rowed b next.0 last (number_after b) text (shows.Word (length b.emitted)) (kept.rows ∙ loc_rows b named.0 loc (plus b.here) named.1)
    (rw kept.names (no_literal_loc b named.0 loc (plus b.here) named.1 none)) next.2

pub alf_next : (b last : Before) (text : List ℕ) (loc : Option Label) (word : WordValue) → alf_line b text loc word ≡ Ok last → HasNoLiteral b.names → IsNext b last
unfolding alf_line
alf_next b last text loc word is none =
    let named = bind_ok (with_loc b loc (plus b.here)) _ last is in
    let next = bind_ok (with_word named.0 word None) _ last named.2 in
    let kept = word_kept named.0 next.0 word None next.1 in
    rowed b next.0 last (number_after b) text (shows.Word (length b.emitted)) (kept.rows ∙ loc_rows b named.0 loc (plus b.here) named.1)
    (rw kept.names (no_literal_loc b named.0 loc (plus b.here) named.1 none)) next.2

-- a line that is not the last
pub ready_by : (b last next : Before) → length b.rows < 20000 → IsNext b next → last ≡ next → IsReady last
ready_by b last next below kept same =
    rw same (record { unplaced = kept.unplaced; lines = let size = kept.lines in omega arith })

-- A line by the steps that the code takes: LOC, what its ADDRESS says, and the rest.
use Rattle.std.proofs.Common.{◌≡◌, ℕ, Bool, true, false, ◌&&◌, List, [], ◌∷◌, ◌++◌, Option, Some, None, length, refl, sym, ap, subst, ◌∙◌}
use Rattle.std.specs.Prelude.{nat_le, OnOk}
use Rattle.std.specs.Result.{IsErrAnd}
use Rattle.mix_refused.specs.declared.refused.Refused.{Refused}
use Rattle.mix_refused.specs.Refused.{IfFault}
use Rattle.mix_refused.specs.declared.refused.Refused.TheVariants as refused
use Rattle.std.proofs.lemmas.Result.{err_from_is_err_and}
use Rattle.mixal_asm.specs.Prelude.{Key, AsmKind, Before, Line, with_name, name_of, is_awaited, with_loc, names_at, of_address, with_word, with_line, number_after, con_line, orig_line, location_of, machine_line, with_instruction, instruction, Text, NamesSoFar, Held, emitted_of}
use Rattle.mixal_asm.specs.declared.fault.AsmKind.TheVariants.{AddressTooLarge}
use Rattle.mixal_asm.proofs.DraftLemmas.{no_literal_more}
use Rattle.std.specs.Prelude.{Result, Ok, Err}
use Rattle.mix_word.specs.Word.{WordValue, plus}
use Rattle.mixal_text.specs.Prelude.{◌>>=◌, w_value_of, LineValue, line_of}
use Rattle.mixal_text.specs.declared.label.Label.{Label}
use Rattle.mixal_text.specs.declared.misread.Misread.{Misread}
use Rattle.mixal_text.specs.Address.{OperandValue, address_of}
use Rattle.mixal_asm.specs.declared.row.Shows.TheVariants as shows
use Rattle.mixal_asm.specs.declared.scope.OwnLocal.{OwnLocal}
use Rattle.std.proofs.Common.{map}
use Rattle.mixal_asm.specs.declared.words.Emitted.{Emitted}
use Rattle.mixal_asm.specs.Assembly.{first_unmet, met, end_value, start_of, program_at, ended, words_of, finished_word, answer_of, answer_of_line}
use Rattle.mixal_asm.specs.Draft.{scope_value, shown_word, HasNoLiteral, held_by}

-- an answer is refused with the same fault
pub refused_as : {A : Type 0} (answer : Result A AsmKind) (kind other : AsmKind) → kind ≡ other → Err other ≡ answer → Err kind ≡ answer
refused_as answer kind other same is = rw same is

pub con_is : (b named : Before) (text : List ℕ) (loc : Option Label) (address : List ℕ) (here : WordValue) (own : Option OwnLocal) (read : Result WordValue AsmKind)
    → here ≡ plus b.here → with_loc b loc here ≡ Ok named → scope_value named.names own ≡ names_at b.names named.names
    → read ≡ of_address text (w_value_of (scope_value named.names own) (plus named.here) address)
    → con_line b text loc address
    ≡ (read >>= λ value. shown_word (Line (number_after b) text) (length b.emitted) (with_word named value None))
unfolding con_line
con_is b named text loc address here own read is_here ok scope is = rw (is, scope, ← is_here, ok) refl

pub orig_is : (b named : Before) (text : List ℕ) (loc : Option Label) (address : List ℕ) (here : WordValue) (own : Option OwnLocal) (read : Result WordValue AsmKind)
    → here ≡ plus b.here → with_loc b loc here ≡ Ok named → scope_value named.names own ≡ names_at b.names named.names
    → read ≡ of_address text (w_value_of (scope_value named.names own) (plus named.here) address)
    → orig_line b text loc address
    ≡ (read >>= λ value. location_of value >>= λ to. Ok (with_line (record named { here = to }) (number_after b) text shows.Nothing))
unfolding orig_line
orig_is b named text loc address here own read is_here ok scope is = rw (is, scope, ← is_here, ok) refl

pub machine_is : (b named : Before) (text : List ℕ) (loc : Option Label) (code f : ℕ) (address : List ℕ) (here : WordValue) (own : Option OwnLocal)
    (read : Result OperandValue AsmKind)
    → here ≡ plus b.here → with_loc b loc here ≡ Ok named → scope_value named.names own ≡ names_at b.names named.names
    → of_address text (address_of (scope_value named.names own) (plus named.here) f address) ≡ read
    → machine_line b text loc code f address
    ≡ (read >>= λ operand. shown_word (Line (number_after b) text) (length b.emitted) (with_instruction named (instruction code operand) operand.a))
unfolding machine_line
machine_is b named text loc code f address here own read is_here ok scope is = rw (← is, scope, ← is_here, ok) refl

-- the same where the answer is that of the last step
pub fault_of : {T A : Type 0} (result : Result T (Refused AsmKind)) (a b : Result A AsmKind) → a ≡ b
    → IfFault result (λ kind. b ≡ Err kind) → IfFault result (λ kind. a ≡ Err kind)
fault_of {T} {A} result a b same h = subst (λ (x : Result A AsmKind). IfFault result (λ kind. x ≡ Err kind)) (sym same) h

-- the same at the exit of a `?`
pub fault_by : {T A : Type 0} (result : Result T (Refused AsmKind)) (kind : AsmKind) (a : Result A AsmKind)
    → IsErrAnd result (λ r. r ≡ refused.Fault kind) → a ≡ Err kind → IfFault result (λ k. a ≡ Err k)
fault_by result kind a is same =
    let p = err_from_is_err_and result is in
    rw (p.1, p.2) same

pub ok_of : {T : Type 0} (result : Result T (Refused AsmKind)) (a b : Result Before AsmKind) (new : Before) → a ≡ b
    → OnOk result (b ≡ Ok new) → OnOk result (a ≡ Ok new)
ok_of result a b new same h = subst (λ (x : Result Before AsmKind). OnOk result (x ≡ Ok new)) (sym same) h

-- LOC gives no literal its place
no_literal-step : (b named : Before) (name : Key) (value : WordValue) (t : Bool) → (is_awaited name b.emitted && nat_le 4096 value.magnitude) ≡ t
    → with_name b name value ≡ Ok named → named.names ≡ b.names ++ (name, value) ∷ []
no_literal-step b named name value true is ok =
    let refused : with_name b name value ≡ Err AddressTooLarge = rw is refl in
    let clash = sym refused ∙ ok in
    cc
no_literal-step b named name value false is ok =
    let done : with_name b name value ≡ Ok (record b { names = b.names ++ (name, value) ∷ [] }) = rw is refl in
    let same = sym done ∙ ok in
    let whole : record b { names = b.names ++ (name, value) ∷ [] } ≡ named = cc in
    sym (ap (λ (d : Before). d.names) whole)

pub names_with : (b named : Before) (name : Key) (value : WordValue) → with_name b name value ≡ Ok named → named.names ≡ b.names ++ (name, value) ∷ []
names_with b named name value ok = no_literal-step b named name value (is_awaited name b.emitted && nat_le 4096 value.magnitude) refl ok

pub no_literal_loc : (b named : Before) (loc : Option Label) (value : WordValue) → with_loc b loc value ≡ Ok named → HasNoLiteral b.names
    → HasNoLiteral named.names
no_literal_loc b named None value ok none = let same : b ≡ named = cc in subst (λ (d : Before). HasNoLiteral d.names) same none
no_literal_loc b named (Some loc) value ok none =
    rw (names_with b named (name_of b.names loc) value ok) (no_literal_more b.names loc value none)

-- ---- END

pub ended_is : (b named : Before) (number : ℕ) (text : List ℕ) (loc : Option Label) (address : List ℕ) (here : WordValue) (own : Option OwnLocal) (read : Result WordValue AsmKind)
    → met b (first_unmet b loc) ≡ Ok b → here ≡ plus b.here → with_loc b loc here ≡ Ok named
    → scope_value named.names own ≡ names_at b.names named.names
    → read ≡ end_value (scope_value named.names own) (plus named.here) text address
    → ended b number text loc address
    ≡ (read >>= λ value. start_of value >>= λ start. Ok (program_at (with_line named number text shows.Start) start))
unfolding ended
ended_is b named number text loc address here own read all_met is_here ok scope is = rw (all_met, is, scope, ← is_here, ok) refl

pub ended_fault : (b : Before) (number : ℕ) (text : List ℕ) (loc : Option Label) (address : List ℕ) (kind : AsmKind)
    → met b (first_unmet b loc) ≡ Err kind → ended b number text loc address ≡ Err kind
unfolding ended
ended_fault b number text loc address kind unmet = rw unmet refl

placed_words : (names : NamesSoFar) (emitted : List Emitted)
    → map (λ (held : Held). (held.emitted.place, held.word)) (held_by names emitted) ≡ words_of names emitted
placed_words names [] = refl
placed_words names (word ∷ emitted) = ap (λ (ws : List (ℕ × WordValue)). (word.place, finished_word names word.word word.awaits) ∷ ws) (placed_words names emitted)

pub words_are : (names : NamesSoFar) (held : List Held) → held ≡ held_by names (emitted_of held)
    → map (λ (h : Held). (h.emitted.place, h.word)) held ≡ words_of names (emitted_of held)
words_are names held finished = ap (λ (hs : List Held). map (λ (h : Held). (h.emitted.place, h.word)) hs) finished ∙ placed_words names (emitted_of held)

-- ---- a line that is read, where there are not too many before it

pub answer_is : (b : Before) (text : List ℕ) (line : LineValue) → nat_le 20000 (length b.rows) ≡ false → line_of text ≡ Ok line
    → answer_of b text ≡ answer_of_line b text line
unfolding answer_of
answer_is b text line below is = rw (below, is) refl

pub answer_fault : (b : Before) (text : List ℕ) (misread : Misread) → nat_le 20000 (length b.rows) ≡ false → line_of text ≡ Err misread
    → answer_of b text ≡ Err (Text misread)
unfolding answer_of
answer_fault b text misread below is = rw (below, is) refl

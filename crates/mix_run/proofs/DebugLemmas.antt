-- The source and the deck of a text that was read up to one byte more than a bundle may have.
use Rattle.std.proofs.Common.{◌≡◌, ◌<◌, ◌≤◌, ℕ, Bool, true, false, List, Option, Result, Ok, Err, refl, sym, ap, ◌∙◌, length, ltb, take, arith}
use Rattle.std.proofs.lemmas.Bool.{lt-ltb, ltb-false, ltb-true}
use Rattle.std.proofs.lemmas.List.{length-take-le, take_all}
use Rattle.mixal_asm.specs.Prelude.{assembly, ProgramValue}
use Rattle.mixal_asm.specs.declared.fault.AsmFault.{AsmFault}
use Rattle.mix_machine.specs.units.deck.Deck.{deck_of}
use Rattle.mix_run.specs.Prelude.{debug_output, Meets, outcome_of, output, refusal_of, deck_given, ToolFault}
use Rattle.mix_run.specs.PrintOutput.{parts_of}
use Rattle.mix_run.specs.law.Truncation.{assembly-whole, parts-read}

-- what was assembled is what the source of the text gives
pub parts-made : (text read source : List ℕ) (made : Result ProgramValue AsmFault) → read ≡ take 41943041 text → source ≡ (parts_of read).source
    → assembly source ≡ made → assembly (parts_of text).source ≡ made
parts-made text read source made e s f = sym (parts-read text read e).0 ∙ sym (ap assembly s) ∙ f

-- one that is assembled is not refused
pub parts-taken : (text read source : List ℕ) (program : ProgramValue) (fault : AsmFault) → read ≡ take 41943041 text → source ≡ (parts_of read).source
    → assembly source ≡ Ok program → assembly (parts_of text).source ≡ Err fault → ⊥
parts-taken text read source program fault e s taken refused =
    let same : assembly source ≡ assembly (parts_of text).source = ap assembly s ∙ (parts-read text read e).0 in cc

parts-whole-as : (text read source : List ℕ) (program : ProgramValue) → read ≡ take 41943041 text → source ≡ (parts_of read).source
    → assembly source ≡ Ok program → (v : Bool) → ltb 41943040 (length text) ≡ v → source ≡ (parts_of text).source
unfolding parts_of
parts-whole-as text read source program e s made true long =
    let many : 41943041 ≤ length text = omega (arith, ltb-true 41943040 (length text) long) in
    let size : length read ≡ 41943041 = ap length e ∙ length-take-le 41943041 text many in
    let more : 41943040 < length read = omega (arith, size) in
    let alone : source ≡ read = rw (lt-ltb 41943040 (length read) more) at s in
    let short : take 1048577 read ≡ read = assembly-whole read program (ap assembly (sym alone) ∙ made) in
    let cut : length (take 1048577 read) ≡ 1048577 = length-take-le 1048577 read (omega (arith, size)) in
    absurd (omega (arith, size, cut, ap length short))
parts-whole-as text read source program e s made false few =
    let none : length text ≤ 41943040 = ltb-false 41943040 (length text) few in
    let same : read ≡ text = e ∙ take_all 41943041 text (omega arith) in
    s ∙ ap (λ t. (parts_of t).source) same

-- a source that is not refused is all of that of the text
pub parts-whole : (text read source : List ℕ) (program : ProgramValue) → read ≡ take 41943041 text → source ≡ (parts_of read).source
    → assembly source ≡ Ok program → source ≡ (parts_of text).source
parts-whole text read source program e s made = parts-whole-as text read source program e s made (ltb 41943040 (length text)) refl

-- the deck that is used is that of the text, or the one that is given
pub deck-used : (given : Bool) (text read own deck : List ℕ) → read ≡ take 41943041 text → own ≡ (parts_of read).deck
    → deck_given given own deck ≡ deck_given given (parts_of text).deck deck
deck-used given text read own deck e o = ap (λ d. deck_given given d deck) (o ∙ (parts-read text read e).1)

-- a refused source
pub Debug-refused : (echo given : Bool) (text read source deck script : List ℕ) (fault : AsmFault) (done : Result ℕ ToolFault) (old new : Option (List ℕ)) →
    read ≡ take 41943041 text → source ≡ (parts_of read).source → assembly source ≡ Err fault → Meets (refusal_of fault) done old new
    → Meets (debug_output echo given text deck script) done old new
unfolding debug_output output outcome_of
Debug-refused echo given text read source deck script fault done old new e s f met = rw (parts-made text read source (Err fault) e s f) met

-- a source, with the deck that is used
pub Debug-made : (echo given : Bool) (text read source own deck script : List ℕ) (program : ProgramValue) (done : Result ℕ ToolFault)
    (old new : Option (List ℕ)) → read ≡ take 41943041 text → source ≡ (parts_of read).source → own ≡ (parts_of read).deck → assembly source ≡ Ok program
    → Meets (outcome_of echo (Ok program) (deck_of (deck_given given own deck)) script) done old new → Meets (debug_output echo given text deck script) done old new
unfolding debug_output output
Debug-made echo given text read source own deck script program done old new e s o made met =
    rw (parts-made text read source (Ok program) e s made) (rw (deck-used given text read own deck e o) at met)

-- What is refused for its length alone shows in its first bytes, one more than it may have.
use Rattle.std.proofs.Common.{◌≡◌, ℕ, suc, ◌<◌, ◌≤◌, Bool, true, false, cond, ltb, List, length, take, Result, Ok, Err, refl, sym, ap, ◌∙◌, arith}
use Rattle.std.proofs.lemmas.Bool.{lt-ltb, ltb-true, ltb-false}
use Rattle.std.proofs.lemmas.List.{length-take-le, take-take, take_all}
use Rattle.mixal_asm.specs.Prelude.{assembly, program_from, at_first, ProgramValue}
use Rattle.mix_machine.specs.units.Units.{UnitsState}
use Rattle.mix_machine.specs.units.deck.Deck.{lines_from, deck_of, text_of_unit, nothing_read, no_line_read}
use Rattle.mix_files.specs.Bundle.{parts_of}
use Rattle.mix_lines.specs.Lines.{lines}

by_length : {A : Type 0} (limit : ℕ) (refused : A) (read : List ℕ → A) (bytes : List ℕ) (v : Bool) → ltb limit (length bytes) ≡ v
    → cond (ltb limit (length (take (suc limit) bytes))) refused (read (take (suc limit) bytes)) ≡ cond v refused (read bytes)
by_length limit refused read bytes true e =
    let many : suc limit ≤ length bytes = omega (arith, ltb-true limit (length bytes) e) in
    let one_more : limit < length (take (suc limit) bytes) = omega (arith, length-take-le (suc limit) bytes many) in
    rw (lt-ltb _ _ one_more) refl
by_length limit refused read bytes false e =
    let few : length bytes ≤ limit = ltb-false limit (length bytes) e in
    rw (take_all (suc limit) bytes (omega arith), e) refl

pub limited-take : {A : Type 0} (limit : ℕ) (refused : A) (read : List ℕ → A) (bytes : List ℕ)
    → cond (ltb limit (length (take (suc limit) bytes))) refused (read (take (suc limit) bytes)) ≡ cond (ltb limit (length bytes)) refused (read bytes)
limited-take limit refused read bytes = by_length limit refused read bytes (ltb limit (length bytes)) refl

-- a deck is read from its first 33,554,433 bytes
pub deck_of-take : (bytes : List ℕ) → deck_of (take 33554433 bytes) ≡ deck_of bytes
unfolding deck_of
deck_of-take bytes = limited-take 33554432 _ (λ text. lines_from true 1 nothing_read (lines text)) bytes

-- the text of a unit is read from its first 33,554,433 bytes
pub text_of-take : (units : UnitsState) (n : ℕ) (bytes : List ℕ) → text_of_unit units n (take 33554433 bytes) ≡ text_of_unit units n bytes
unfolding text_of_unit
text_of-take units n bytes = limited-take 33554432 _ (λ text. lines_from false 1 (no_line_read units n) (lines text)) bytes

-- a source is assembled from its first 1,048,577 bytes
pub assembly-take : (source : List ℕ) → assembly (take 1048577 source) ≡ assembly source
unfolding assembly
assembly-take source = limited-take 1048576 _ (λ text. program_from at_first (lines text)) source

-- a source is assembled from its first bytes, and so from more of them
assembly-of-front : (text : List ℕ) → assembly (take 41943041 text) ≡ assembly text
assembly-of-front text =
    let same : take 1048577 (take 41943041 text) ≡ take 1048577 text = take-take 1048577 41943041 text (omega arith) in
    sym (assembly-take (take 41943041 text)) ∙ ap assembly same ∙ assembly-take text

parts-read-as : (text read : List ℕ) → read ≡ take 41943041 text → (v : Bool) → ltb 41943040 (length text) ≡ v
    → (assembly (parts_of read).source ≡ assembly (parts_of text).source) × ((parts_of read).deck ≡ (parts_of text).deck)
unfolding parts_of
parts-read-as text read e true long =
    let many : 41943041 ≤ length text = omega (arith, ltb-true 41943040 (length text) long) in
    let more : 41943040 < length read = omega (arith, ap length e ∙ length-take-le 41943041 text many) in
    rw (lt-ltb 41943040 (length read) more, long) (ap assembly e ∙ assembly-of-front text, refl)
parts-read-as text read e false few =
    let none : length text ≤ 41943040 = ltb-false 41943040 (length text) few in
    let same : read ≡ text = e ∙ take_all 41943041 text (omega arith) in
    (ap (λ t. assembly (parts_of t).source) same, ap (λ t. (parts_of t).deck) same)

-- the parts of a text that was read up to one byte more than a bundle may have
pub parts-read : (text read : List ℕ) → read ≡ take 41943041 text
    → (assembly (parts_of read).source ≡ assembly (parts_of text).source) × ((parts_of read).deck ≡ (parts_of text).deck)
parts-read text read e = parts-read-as text read e (ltb 41943040 (length text)) refl

-- what is not refused for its length is all that is read of it
whole-by : {A E : Type 0} (limit : ℕ) (refused : E) (read : Result A E) (bytes : List ℕ) (x : A) (v : Bool) → ltb limit (length bytes) ≡ v
    → cond v (Err refused) read ≡ Ok x → take (suc limit) bytes ≡ bytes
whole-by limit refused read bytes x true h e = absurd cc
whole-by limit refused read bytes x false h e =
    let few : length bytes ≤ limit = ltb-false limit (length bytes) h in take_all (suc limit) bytes (omega arith)

pub assembly-whole : (source : List ℕ) (program : ProgramValue) → assembly source ≡ Ok program → take 1048577 source ≡ source
unfolding assembly
assembly-whole source program e = whole-by 1048576 _ _ source program (ltb 1048576 (length source)) refl e

pub deck-whole : (deck : List ℕ) (units : UnitsState) → deck_of deck ≡ Ok units → take 33554433 deck ≡ deck
unfolding deck_of
deck-whole deck units e = whole-by 33554432 _ _ deck units (ltb 33554432 (length deck)) refl e

-- a deck that is not refused is all that is read of it
pub deck-read-whole : (deck read : List ℕ) (units : UnitsState) → read ≡ take 33554433 deck → deck_of read ≡ Ok units → read ≡ deck
deck-read-whole deck read units e made = e ∙ deck-whole deck units (sym (ap deck_of e ∙ deck_of-take deck) ∙ made)

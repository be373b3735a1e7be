use Rattle.std.proofs.Common.{◌≡◌, ℕ, List, map, subst, sym, ap, ◌∙◌}
use Rattle.std.specs.Prelude.{IfOk}
use Rattle.mix_word.specs.Word.{WordValue}
use Rattle.mixal_asm.specs.Prelude.{Held, Entry}
use Rattle.mixal_asm.proofs.ChainLemmas.{map_held}
use Rattle.mixal_asm.proofs.words.WordList.placed.Goals as goal

abbrev place_and_word : Held → ℕ × WordValue
place_and_word held = (held.emitted.place, held.word)

pub returns : goal.returns
returns c =
    let same : map (λ (e : Entry). (e.emitted.place, e.word)) c.deref.result.now ≡ map place_and_word c.args.self.now =
    ap (λ (es : List Entry). map (λ (e : Entry). (e.emitted.place, e.word)) es) c.deref.ensures.value
    ∙ sym (map_held place_and_word c.self.inside.entries.items) ∙ ap (λ (held : List Held). map place_and_word held) c.self.view_is in
    subst (λ (xs : List (ℕ × WordValue)). IfOk c.placed.result (λ words. words.items ≡ xs)) same c.placed.ensures

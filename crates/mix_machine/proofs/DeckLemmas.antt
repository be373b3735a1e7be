-- The words of a line of a deck, one after the other.
use Rattle.std.proofs.Common.{ℕ, suc, ◌+◌, ◌-◌, ◌*◌, ◌≡◌, ◌==◌, ◌<◌, true, length, List, [], ◌∷◌, ◌++◌, Option, None, Some, Ok, refl, ap, arith, append_assoc}
use Rattle.std.specs.Option.{option_map}
use Rattle.std.proofs.lemmas.Bool.{eqb-true}
use Rattle.mix_lines.specs.Lines.{lines, lines-nil}
use Rattle.mix_word.specs.Word.{WordValue}
use Rattle.mix_machine.specs.units.deck.Block.{deck_word, deck_words, word_at, words_from}
use Rattle.mix_machine.specs.units.deck.Deck.{with_words}

pushed : (ws : List WordValue) (w : WordValue) (o : Option (List WordValue)) →
    with_words (ws ++ w ∷ []) o ≡ with_words ws (option_map (λ vs. w ∷ vs) o)
pushed ws w None = refl
pushed ws w (Some vs) = ap Ok (append_assoc ws (w ∷ []) vs)

pub words-more : (ws : List WordValue) (text : List ℕ) (rest : List (List ℕ)) (w : WordValue) → deck_word text ≡ Some w →
    with_words (ws ++ w ∷ []) (deck_words rest) ≡ with_words ws (deck_words (text ∷ rest))
words-more ws text rest w h = rw h (pushed ws w (deck_words rest))

pub columns-more : (count i : ℕ) (text : List ℕ) → i < count →
    word_at text (5 * i) ∷ words_from (count - (i + 1)) (5 * (i + 1)) text ≡ words_from (count - i) (5 * i) text
columns-more count i text h =
    let left : count - i ≡ suc (count - (i + 1)) = omega arith in
    let next : 5 * (i + 1) ≡ 5 * i + 5 = omega arith in
    rw (left, next) refl

-- a text with no byte has no line
pub no_lines : (text : List ℕ) → (length text == 0) ≡ true → lines text ≡ []
no_lines [] e = lines-nil
no_lines (byte ∷ rest) e = absurd (omega (arith, eqb-true _ _ e))

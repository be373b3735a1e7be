-- Facts of what `show unit` writes.
use Rattle.std.proofs.Common.{◌≡◌, ℕ, zero, suc, ◌<◌, Bool, true, ◌&&◌, ◌+◌, ◌-◌, get_or, List, [], ◌∷◌, ◌++◌, length, take, flat_map, refl, ap, ◌∙◌, arith}
use Rattle.std.specs.Prelude.{nat_lt}
use Rattle.std.proofs.lemmas.Bool.{and_parts}
use Rattle.std.proofs.lemmas.Bool.Decides.{nat_tests}
use Rattle.std.proofs.lemmas.Str.{encode_ascii}
use Rattle.std.proofs.Math.Utf8.{encode}
use Rattle.std.specs.List.{range_with_len}
use Rattle.mix_word.specs.Prelude.{characters, character_of, WordValue, zero_word}
use Rattle.mix_session.specs.ShowUnit.{deck_word_text, text_after, block_word_text}
use Rattle.mix_session.proofs.ShowLemmas.{flat_map-next, flat_map-range_next}

abbrev all_ascii : List ℕ → Bool
all_ascii [] = true
all_ascii (c ∷ cs) = nat_lt c 128 && all_ascii cs

under-128 : (c : ℕ) → nat_lt c 128 ≡ true → c < 128
under-128 c e = grind (arith, nat_tests)

at-ascii : (cs : List ℕ) (i d : ℕ) → all_ascii cs ≡ true → d < 128 → get_or cs i d < 128
at-ascii [] i d e l = l
at-ascii (c ∷ cs) zero d e l = under-128 c (and_parts _ _ e).0
at-ascii (c ∷ cs) (suc i) d e l = at-ascii cs i d (and_parts _ _ e).1 l

-- each character is one byte
pub character_below : (code : ℕ) → character_of code < 128
unfolding character_of
character_below code = at-ascii characters code 63 refl (omega arith)

-- a character as it is written
pub character-encoded : (code c : ℕ) → c ≡ character_of code → encode c ≡ character_of code ∷ []
character-encoded code c e = ap encode e ∙ encode_ascii (character_of code) (character_below code)

pub ruleset letters = (character-encoded)

-- the texts of one more of a list of things, of which this is the next
pub flat_map-item : {X : Type 0} (f : X → List ℕ) (xs : List X) (i : ℕ) (d x : X) → i < length xs → x ≡ get_or xs i d →
    flat_map f (take i xs) ++ f x ≡ flat_map f (take (i + 1) xs)
flat_map-item f xs i d x below e = rw e (flat_map-next f xs i d below)

-- one more word of a block
pub block_words-next : (words : List WordValue) (j : ℕ) (word : WordValue) (after : List ℕ) → word ≡ get_or words j zero_word → after ≡ text_after j →
    flat_map (block_word_text words) (range_with_len 0 j) ++ (deck_word_text word ++ after) ≡ flat_map (block_word_text words) (range_with_len 0 (j + 1))
block_words-next words j word after e f =
    let text = block_word_text words in
    let here : j ≡ j - 0 = omega arith in
    let more : j + 1 - 0 ≡ j + 1 = omega arith in
    rw (e, f)
    (ap (λ (n : ℕ). flat_map text (range_with_len 0 n) ++ text j) here ∙ flat_map-range_next text 0 j (omega arith) ∙ ap (λ (n : ℕ). flat_map text (range_with_len 0 n)) more)

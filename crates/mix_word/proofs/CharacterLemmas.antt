-- the table of characters, read both ways
use Rattle.std.proofs.Common.{◌≡◌, ℕ, zero, suc, ◌<◌, ◌≤◌, Bool, true, false, ◌==◌, ◌&&◌, get_or, Option, Some, None, Decides, refl, ap, ◌∙◌, sym}
use Rattle.std.specs.List.{position}
use Rattle.std.specs.Char.{to_ascii_uppercase}
use Rattle.std.proofs.lemmas.Bool.Decides.{Decides-below_and, Decides-eqb}
use Rattle.std.proofs.lemmas.List.{get_or_default, get_or_past}
use Rattle.std.proofs.lemmas.List.Quantifiers.{position-Some}
use Rattle.mix_word.specs.Characters.{characters, character_of, character_code}

pub character_below : (i : ℕ) → i < 56 → get_or characters i 0 ≡ character_of i
unfolding character_of
character_below i h = get_or_default characters i 0 63 h

pub character_past : (i : ℕ) → 56 ≤ i → 63 ≡ character_of i
unfolding character_of
character_past i h = sym (get_or_past characters i 63 h)

abbrev is_code : Option ℕ → ℕ → Bool
is_code None k = false
is_code (Some c) k = c == k

is_code-Decides : (o : Option ℕ) (k : ℕ) → Decides (is_code o k) (o ≡ Some k)
is_code-Decides None k = (λ e. absurd (cc), λ e. absurd (cc))
is_code-Decides (Some c) k = (λ e. ap (λ (n : ℕ). Some n) ((Decides-eqb c k).0 e), λ e. (Decides-eqb c k).1 (cc))

abbrev reads_back : ℕ → Bool
reads_back k = is_code (character_code (character_of k)) k

abbrev all_read_back : ℕ → Bool
all_read_back zero = true
all_read_back (suc n) = reads_back n && all_read_back n

all_do : all_read_back 56 ≡ true
unfolding character_code character_of
all_do = refl

pub read_back : (i : ℕ) → i < 56 → character_code (character_of i) ≡ Some i
read_back i h =
    (Decides-below_and reads_back (λ k. character_code (character_of k) ≡ Some k) all_read_back (λ k. is_code-Decides _ k) refl (λ _. refl) 56).0 all_do i h

pub unread : (i : ℕ) → 56 ≤ i → character_code (character_of i) ≡ None
unfolding character_code
unread i h = ap (λ (c : ℕ). character_code c) (sym (character_past i h))

pub printed : (b u i : ℕ) → u ≡ to_ascii_uppercase b → Some i ≡ position (λ c. c == u) characters → (i < 56) × (character_of i ≡ to_ascii_uppercase b)
unfolding character_of
printed b u i at_upper e =
    let p = position-Some (λ c. c == u) characters i 63 (sym e) in
    (p.0, (Decides-eqb _ _).0 p.1 ∙ at_upper)

pub code_by_place : (b u : ℕ) → u ≡ to_ascii_uppercase b → position (λ c. c == u) characters ≡ character_code b
unfolding character_code
code_by_place b u e = ap (λ (n : ℕ). position (λ c. c == n) characters) e

pub ruleset characters_by_code = (character_below, character_past)

pub ruleset characters_read_back = (read_back, unread)

-- Facts of what `show` writes.
use Rattle.std.proofs.Common.{◌≡◌, ℕ, zero, suc, ◌+◌, ◌-◌, ◌<◌, ◌≤◌, List, [], ◌∷◌, ◌++◌, length, take, replicate, get_or, flat_map, refl, sym, ap, ◌∙◌, append_assoc, add-zero, arith}
use Rattle.std.proofs.lemmas.List.{append-nil, take_more}
use Rattle.std.proofs.lemmas.Grind.{flat_map-append}
use Rattle.std.proofs.lemmas.List.Folds.{flat_map-map}
use Rattle.std.proofs.lemmas.List.FromFn.{fill_by_all}
use Rattle.std.specs.List.{range_with_len}
use Rattle.std.specs.Fmt.{format_spec, styled_text, padded, char_count, take_chars}
use Rattle.mix_word.specs.Prelude.{WordValue, name_of_register}
use Rattle.mix_word.specs.declared.register.Reg.{Reg}
use Rattle.mix_word.specs.declared.register.Reg.TheVariants as reg
use Rattle.mix_machine.specs.World.{WorldState, register_of}
use Rattle.mix_session.specs.Each.{texts}
use Rattle.mix_session.specs.Show.{value_text, register_line}

-- a name that is written left in two places
pub name-padded : (r : Reg) → styled_text (format_spec 32 1 0 2 18446744073709551615) (name_of_register r) ≡ name_of_register r ++ replicate (2 - length (name_of_register r)) 32
unfolding padded char_count take_chars lib.Utf8.encode
name-padded reg.A = refl
name-padded reg.X = refl
name-padded reg.I1 = refl
name-padded reg.I2 = refl
name-padded reg.I3 = refl
name-padded reg.I4 = refl
name-padded reg.I5 = refl
name-padded reg.I6 = refl
name-padded reg.J = refl

-- a register's line is what the format with its name left in two places writes
pub register_line-is : (w : WorldState) (r : Reg) (spec : _) (name : List ℕ) (word : WordValue) → spec ≡ format_spec 32 1 0 2 18446744073709551615 →
    name ≡ name_of_register r → word ≡ register_of w r → styled_text spec name ++ 32 ∷ (value_text r word ++ 10 ∷ []) ≡ register_line w r
register_line-is w r spec name word e f g = rw (e, f, g, name-padded r) (simp append_assoc)

-- what one more of a list of things gives
pub flat_map-next : {X Y : Type 0} (f : X → List Y) (xs : List X) (i : ℕ) (d : X) → i < length xs →
    flat_map f (take i xs) ++ f (get_or xs i d) ≡ flat_map f (take (i + 1) xs)
flat_map-next f xs i d below =
    rw (take_more xs i d below) (rw flat_map-append (ap (λ t. flat_map f (take i xs) ++ t) (sym (append-nil (f (get_or xs i d))))))

-- one number more
pub range-suc : (a n : ℕ) → range_with_len a (suc n) ≡ range_with_len a n ++ (a + n) ∷ []
range-suc a zero = rw (add-zero a) refl
range-suc a (suc n) = let next : (a + 1) + n ≡ a + suc n = omega arith in ap (λ t. a ∷ t) (range-suc (a + 1) n ∙ rw next refl)

-- the texts of one more of the numbers from a first one on
pub flat_map-range_next : (f : ℕ → List ℕ) (a k : ℕ) → a ≤ k →
    flat_map f (range_with_len a (k - a)) ++ f k ≡ flat_map f (range_with_len a (k + 1 - a))
flat_map-range_next f a k from =
    let n = k - a in
    let more : k + 1 - a ≡ suc n = omega arith in
    let here : k ≡ a + n = omega arith in
    let whole : flat_map f (range_with_len a (suc n)) ≡ flat_map f (range_with_len a n) ++ f (a + n) =
    ap (flat_map f) (range-suc a n) ∙ flat_map-append f (range_with_len a n) ((a + n) ∷ []) ∙ ap (λ t. flat_map f (range_with_len a n) ++ t) (append-nil (f (a + n))) in
    rw more (sym (whole ∙ ap (λ (i : ℕ). flat_map f (range_with_len a n) ++ f i) (sym here)))

-- the texts of all things of a list, by their numbers
pub texts-indexed : {X : Type 0} (f : X → List ℕ) (d : X) (xs : List X) (n : ℕ) → n ≡ length xs →
    texts (λ i. f (get_or xs i d)) 0 n ≡ flat_map f xs
unfolding texts
texts-indexed f d xs n e =
    let whole : n - 0 ≡ length xs = omega (arith, e) in
    ap (λ (k : ℕ). flat_map (λ i. f (get_or xs i d)) (range_with_len 0 k)) whole
    ∙ sym (ap (flat_map f) (fill_by_all (λ i. get_or xs i d) xs (length xs) d refl (λ i below. refl)) ∙ flat_map-map f (λ i. get_or xs i d) (range_with_len 0 (length xs)))

-- one more after those that a list was continued with
pub appended : {Y : Type 0} (front now next all line more : List Y) → now ≡ front ++ all → next ≡ now ++ line → all ++ line ≡ more → next ≡ front ++ more
appended front now next all line more so_far added one_more = added ∙ ap (λ t. t ++ line) so_far ∙ append_assoc front all line ∙ ap (λ t. front ++ t) one_more

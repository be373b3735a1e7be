-- The words after `until`, read from the first one on.
use Rattle.std.proofs.Common.{◌≡◌, ◌+◌, ◌-◌, ◌<◌, ◌∙◌, ◌++◌, ℕ, suc, Bool, true, false, List, [], ◌∷◌, take, drop, None, Some, Result, Ok, Err, refl, ap, sym, arith, take-append-drop, append-nil, append_assoc, if◌then◌else◌}
use Rattle.std.specs.Prelude.{ok_or}
use Rattle.mix_word.specs.Word.{WordValue}
use Rattle.mixal_text.specs.Prelude.{NamesValue, ◌>>=◌}
use Rattle.mix_session.specs.Keyword.{keyword_named, until_name, all_untils}
use Rattle.mix_session.specs.Prelude.{no_word, Condition, Refusal}
use Rattle.mix_session.specs.Setting.{condition_of, condition_in}
use Rattle.mix_session.specs.Until.{operands_of, words_of_keyword, words_of_first, first_condition, after_first, with_others, others_in, conditions_up_to, conditions_in, with_read}
use Rattle.mix_session.specs.declared.fault.Refusal.TheVariants.{BadArgument, OutOfRange}
use Rattle.mix_session.specs.declared.keyword.target.SetWord.TheVariants as set
use Rattle.mix_session.specs.declared.keyword.target.UntilWord.{UntilWord}
use Rattle.mix_session.specs.declared.keyword.target.UntilWord.TheVariants as until

-- more words than a keyword has are too many
too_many : (names : NamesValue) (here : WordValue) (k : UntilWord) (more : List (List ℕ)) (e : Refusal) → no_word (drop (operands_of k) more) ≡ Err e →
    Err e ≡ condition_of names here k more
too_many names here (until.Set (set.Register r)) [] e is = absurd (cc)
too_many names here (until.Set (set.Register r)) (x ∷ xs) e is = cc
too_many names here (until.Set set.Toggle) [] e is = absurd (cc)
too_many names here (until.Set set.Toggle) (x ∷ xs) e is = cc
too_many names here (until.Set set.Indicator) [] e is = absurd (cc)
too_many names here (until.Set set.Indicator) (x ∷ xs) e is = cc
too_many names here (until.Set set.Cell) [] e is = absurd (cc)
too_many names here (until.Set set.Cell) (x ∷ []) e is = absurd (cc)
too_many names here (until.Set set.Cell) (x ∷ y ∷ ys) e is = cc
too_many names here (until.Set set.Location) [] e is = absurd (cc)
too_many names here (until.Set set.Location) (x ∷ []) e is = absurd (cc)
too_many names here (until.Set set.Location) (x ∷ y ∷ ys) e is = cc
too_many names here until.Unit [] e is = absurd (cc)
too_many names here until.Unit (x ∷ []) e is = absurd (cc)
too_many names here until.Unit (x ∷ y ∷ ys) e is = cc
too_many names here until.Conflict [] e is = absurd (cc)
too_many names here until.Conflict (x ∷ xs) e is = cc

left_over : (more : List (List ℕ)) (e : Refusal) → no_word more ≡ Err e → ◌≡◌ {A = Result Condition Refusal} (Err e) (Err BadArgument)
left_over [] e is = absurd (cc)
left_over (word ∷ more) e is = cc

-- the words left over are too many for a condition alone
pub alone_bad : (names : NamesValue) (here : WordValue) (words : List (List ℕ)) (e : Refusal) → no_word (after_first words) ≡ Err e →
    Err e ≡ condition_in names here words
unfolding condition_in
alone_bad names here [] e is = absurd (cc)
alone_bad names here (word ∷ more) e is =
    (elim (keyword_named until_name all_untils word) as (λ o. no_word (drop (words_of_keyword o) (word ∷ more)) ≡ Err e →
    Err e ≡ (ok_or o BadArgument >>= (λ k. Ok (k, more)) >>= (λ (first : UntilWord × List (List ℕ)). condition_of names here first.0 first.1))) [
      | None ↦ λ h. left_over more e h
      | Some k ↦ λ h. too_many names here k more e h
    ]) is

no_word-ok : {u : Unit {0}} (words : List (List ℕ)) → no_word words ≡ Ok u → words ≡ []
no_word-ok [] is = refl
no_word-ok (word ∷ more) is = absurd (cc)

-- a condition alone
pub alone_ok : {u : Unit {0}} (names : NamesValue) (here : WordValue) (words : List (List ℕ)) → no_word (after_first words) ≡ Ok u →
    first_condition names here words ≡ condition_in names here words
alone_ok names here words is =
    let none : after_first words ≡ [] = no_word-ok (after_first words) is in
    let whole : take (words_of_first words) words ≡ words = rw (none, append-nil) at (take-append-drop (words_of_first words) words) in
    ap (condition_in names here) whole

-- a bad word is reported, whatever was read
with_read-err : (read : List Condition) (is_in_range : Bool) (e : Refusal) → with_read read is_in_range (Err e) ≡ Err e
with_read-err read true e = refl
with_read-err read false e = refl

-- one condition more is read
pub read_one : (read : List Condition) (is_in_range : Bool) (c : Condition) (others : Result (List Condition) Refusal) →
    with_read read is_in_range (with_others (Ok c) others) ≡ with_read (read ++ c ∷ []) is_in_range others
read_one read true c (Err refusal) = refl
read_one read false c (Err refusal) = refl
read_one read true c (Ok others) = ap Ok (sym (append_assoc read (c ∷ []) others))
read_one read false c (Ok others) = refl

-- or a number is out of range
pub read_far : (read : List Condition) (is_in_range : Bool) (others : Result (List Condition) Refusal) →
    with_read read is_in_range (with_others (Err OutOfRange) others) ≡ with_read read false others
read_far read true (Err refusal) = refl
read_far read false (Err refusal) = refl
read_far read true (Ok others) = refl
read_far read false (Ok others) = refl

-- nothing is read
pub read-none : (names : NamesValue) (here : WordValue) (words : List (List ℕ)) →
    conditions_in names here words ≡ with_read [] true (conditions_up_to (8 - 0) names here words)
unfolding conditions_in
read-none names here words =
    elim (conditions_up_to 8 names here words) as (λ r. r ≡ with_read [] true r) [ Ok others ↦ refl | Err refusal ↦ refl ]

-- at the end there are no others
pub read-all : (read : List Condition) (is_in_range : Bool) → with_read read is_in_range (Ok []) ≡ (if is_in_range then Ok read else Err OutOfRange)
read-all read true = ap Ok (append-nil read)
read-all read false = refl

-- a condition is read, and what follows it is not yet
pub read-more : (names : NamesValue) (here : WordValue) (whole : Result (List Condition) Refusal) (words left : List (List ℕ)) (k : ℕ) (before after : List Condition)
    (b next : Bool) (first : Result Condition Refusal) → k < 8 → whole ≡ with_read before b (conditions_up_to (8 - k) names here words) → left ≡ after_first words →
    first ≡ first_condition names here words →
    ((others : Result (List Condition) Refusal) → with_read before b (with_others first others) ≡ with_read after next others) →
    whole ≡ with_read after next (others_in (conditions_up_to (8 - (k + 1)) names here) left)
read-more names here whole words left k before after b next first below so_far left_is first_is more =
    let count : 8 - k ≡ suc (8 - (k + 1)) = omega (arith, below) in
    let others = others_in (conditions_up_to (8 - (k + 1)) names here) in
    let one : whole ≡ with_read before b (with_others (first_condition names here words) (others (after_first words))) = rw count at so_far in
    one ∙ ap (λ r. with_read before b (with_others r (others (after_first words)))) (sym first_is)
    ∙ ap (λ l. with_read before b (with_others first (others l))) (sym left_is) ∙ more (others left)

-- a bad word ends the reading
pub read-bad : (names : NamesValue) (here : WordValue) (whole : Result (List Condition) Refusal) (words : List (List ℕ)) (k : ℕ) (before : List Condition) (b : Bool)
    (first : Result Condition Refusal) (e : Refusal) → k < 8 → whole ≡ with_read before b (conditions_up_to (8 - k) names here words) →
    first ≡ first_condition names here words → ((others : Result (List Condition) Refusal) → with_others first others ≡ Err e) → Err e ≡ whole
read-bad names here whole words k before b first e below so_far first_is bad =
    let count : 8 - k ≡ suc (8 - (k + 1)) = omega (arith, below) in
    let others = others_in (conditions_up_to (8 - (k + 1)) names here) (after_first words) in
    let one : whole ≡ with_read before b (with_others (first_condition names here words) others) = rw count at so_far in
    sym (one ∙ ap (λ r. with_read before b (with_others r others)) (sym first_is) ∙ ap (with_read before b) (bad others) ∙ with_read-err before b e)

-- a bad word in the place of `or`
pub read-other : (whole others : Result (List Condition) Refusal) (read : List Condition) (b : Bool) (e : Refusal) → whole ≡ with_read read b others → others ≡ Err e → Err e ≡ whole
read-other whole others read b e so_far bad = sym (so_far ∙ ap (with_read read b) bad ∙ with_read-err read b e)

-- the last condition is read
pub read-last : (whole others : Result (List Condition) Refusal) (read : List Condition) (b : Bool) → whole ≡ with_read read b others → others ≡ Ok [] →
    (if b then Ok read else Err OutOfRange) ≡ whole
read-last whole others read b so_far last = sym (so_far ∙ ap (with_read read b) last ∙ read-all read b)

-- another condition follows
pub read-next : (whole others next : Result (List Condition) Refusal) (read : List Condition) (b : Bool) → whole ≡ with_read read b others → others ≡ next →
    whole ≡ with_read read b next
read-next whole others next read b so_far same = so_far ∙ ap (with_read read b) same

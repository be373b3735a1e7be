-- The counts of a path, and what is left to count, come to the whole at each change that is gone over.
use Rattle.std.proofs.Common.{◌≡◌, ◌≢◌, ℕ, zero, suc, ◌+◌, ◌*◌, ◌/◌, ◌%◌, ◌^◌, ◌<◌, ◌≤◌, eqb, ltb, Bool, true, false, ◌&&◌, List, length, get_or, Option, Some, None, refl, ap, sym, ◌∙◌, arith, replicate, slice_set, nat_lt, nat_le, if◌then◌else◌}
use Rattle.std.specs.Option.{option_map}
use Rattle.std.proofs.lemmas.List.{get_or-set_same, get_or-set_other, get_or-replicate, length-replicate}
use Rattle.std.proofs.lemmas.Bool.Decides.{nat_tests}
use Rattle.std.proofs.Math.Nat.{div-lt_iff_lt-mul, mul-le-mul_right}
use Rattle.mix_machine.specs.declared.old.Change.{Change}
use Rattle.mix_session.specs.Prelude.{world_at, Timeline}
use Rattle.mix_session.specs.Counts.{is_step, sum_below, number_if, is_step_after, is_step_at}
use Rattle.mix_session.specs.Path.{column_of, is_column, count_in, IsPath, key_of}
use Rattle.mix_session.specs.declared.path.Span.{Span}
use Rattle.mix_session.proofs.TallyLemmas.{ones-below}

-- the column of a change of a range is one of its columns
pub column_small : (i c w : ℕ) → i < w → c ≤ 65535 → i * c / w < 65536
column_small i c w inside small =
    let most : c * i ≤ 65535 * i = mul-le-mul_right i small in
    let same : i * c ≡ c * i = omega arith in
    (div-lt_iff_lt-mul {k = w} {x = i * c} {y = 65536} (omega (arith, inside))).1 (omega (arith, most, same, inside))

-- what is counted of the changes from the last one back to the n-th, with what is left, comes to the whole
abbrev pub IsCounted : Timeline → (ℕ → Bool) → ℕ → ℕ → Type 0
IsCounted t which n count =
    count + sum_below n (λ i. number_if (which i) 1) ≡ sum_below (length t.changes) (λ i. number_if (which i) 1)

-- the steps of a column at a place
abbrev pub is_in_path : Timeline → Span → ℕ → ℕ → ℕ → Bool
is_in_path t span c p n = is_column c (column_of span n) && is_step_at t p n

pub record AreCounted (t : Timeline) (span : Span) (n : ℕ) (counts : List ℕ) : Type 0 where
  pub size : length counts ≡ span.columns * 4000
  pub each : (c p : ℕ) → c < span.columns → p < 4000 → IsCounted t (is_in_path t span c p) n (count_in counts c p)

counted-one : (t : Timeline) (which : ℕ → Bool) (n count : ℕ) → which n ≡ true → IsCounted t which (suc n) count → IsCounted t which n (count + 1)
counted-one t which n count counts counted = let one : number_if (which n) 1 ≡ 1 = rw counts refl in omega (arith, one, counted)

counted-other : (t : Timeline) (which : ℕ → Bool) (n count : ℕ) → which n ≡ false → IsCounted t which (suc n) count → IsCounted t which n count
counted-other t which n count counts counted = let one : number_if (which n) 1 ≡ 0 = rw counts refl in omega (arith, one, counted)

and-false : (a : Bool) → (a && false) ≡ false
and-false true = refl
and-false false = refl

and-none : (a b : Bool) → (a && (false && b)) ≡ false
and-none true b = refl
and-none false b = refl

abbrev is_key : ℕ → Option ℕ → Bool
is_key k None = false
is_key k (Some j) = eqb j k

-- a column and a cell of it have a number of their own
keys : (d place c p : ℕ) → place < 4000 → p < 4000 → (eqb d c && eqb place p) ≡ eqb (d * 4000 + place) (c * 4000 + p)
keys d place c p inside within = grind (arith, nat_tests, inside, within)

-- whether a change is a step of a column at a cell, by the number of its count
in-path : (t : Timeline) (span : Span) (n place : ℕ) (change : Change) → is_step_after t n ≡ is_step change → (world_at t n).loc ≡ place →
    (c p : ℕ) → p < 4000 → is_in_path t span c p n ≡ is_key (c * 4000 + p) (key_of span change n place)
in-path t span n place change step here c p within = rw (step, here) (
    elim (is_step change) as (λ s. (is_column c (column_of span n) && (s && eqb place p)) ≡
    is_key (c * 4000 + p) (if s && nat_lt place 4000 then option_map (λ c. c * 4000 + place) (column_of span n) else None)) [
      | false ↦ and-none (is_column c (column_of span n)) (eqb place p)
      | true ↦ elim (nat_lt place 4000) as (λ b. nat_lt place 4000 ≡ b → (is_column c (column_of span n) && eqb place p) ≡
          is_key (c * 4000 + p) (if b then option_map (λ c. c * 4000 + place) (column_of span n) else None)) [
            | false ↦ λ e. let other : eqb place p ≡ false = grind (arith, nat_tests, e, within) in rw other (and-false (is_column c (column_of span n)))
            | true ↦ λ e. let inside : place < 4000 = grind (arith, nat_tests, e) in
                elim (column_of span n) as (λ column. (is_column c column && eqb place p) ≡ is_key (c * 4000 + p) (option_map (λ c. c * 4000 + place) column)) [
                  | None ↦ refl
                  | Some d ↦ keys d place c p inside within
                ]
          ] refl
    ])

pub AreCounted-none : (t : Timeline) (span : Span) (size : ℕ) (counts : List ℕ) → size ≡ span.columns * 4000 → counts ≡ replicate size 0 →
    AreCounted t span (length t.changes) counts
AreCounted-none t span size counts all e =
    record {
      size = ap length e ∙ length-replicate size 0 ∙ all;
      each = λ c p column place. rw (e, get_or-replicate {A = ℕ} size (c * 4000 + p) 0 0 (omega (arith, column, place, all))) (omega arith);
    }

-- a change that is counted nowhere
pub AreCounted-other : (t : Timeline) (span : Span) (n place : ℕ) (change : Change) (counts : List ℕ) → is_step_after t n ≡ is_step change →
    (world_at t n).loc ≡ place → key_of span change n place ≡ None → AreCounted t span (suc n) counts → AreCounted t span n counts
AreCounted-other t span n place change counts step here none counted =
    record {
      size = counted.size;
      each = λ c p column within. counted-other t (is_in_path t span c p) n (count_in counts c p)
          (in-path t span n place change step here c p within ∙ rw none refl) (counted.each c p column within);
    }

-- one that is counted, where its column is one of the range
pub AreCounted-one : (t : Timeline) (span : Span) (n place key : ℕ) (change : Change) (counts next : List ℕ) → is_step_after t n ≡ is_step change →
    (world_at t n).loc ≡ place → key_of span change n place ≡ Some key → AreCounted t span (suc n) counts → length next ≡ length counts →
    (key < length counts → next ≡ slice_set counts key (get_or counts key 0 + 1)) → (length counts ≤ key → next ≡ counts) → AreCounted t span n next
AreCounted-one t span n place key change counts next step here is counted long at past =
    let each : (c p : ℕ) → p < 4000 → is_in_path t span c p n ≡ eqb key (c * 4000 + p) =
    λ c p within. in-path t span n place change step here c p within ∙ rw is refl in
    record {
      size = long ∙ counted.size;
      each = λ c p column within. elim (eqb key (c * 4000 + p)) as (λ b. eqb key (c * 4000 + p) ≡ b → IsCounted t (is_in_path t span c p) n (count_in next c p)) [
        | true ↦ λ e.
            let same : key ≡ c * 4000 + p = grind (arith, nat_tests, e) in
            let inside : key < length counts = omega (arith, same, column, within, counted.size) in
            let now : count_in next c p ≡ count_in counts c p + 1 =
            rw (at inside, ← same) (get_or-set_same counts key (get_or counts key 0 + 1) 0 inside) in
            rw now (counted-one t (is_in_path t span c p) n (count_in counts c p) (each c p within ∙ e) (counted.each c p column within))
        | false ↦ λ e.
            let other : c * 4000 + p ≢ key = grind (arith, nat_tests, e) in
            let now : count_in next c p ≡ count_in counts c p =
            elim (ltb key (length counts)) as (λ b. ltb key (length counts) ≡ b → count_in next c p ≡ count_in counts c p) [
              | true ↦ λ l. rw (at (grind (arith, nat_tests, l))) (get_or-set_other counts key (c * 4000 + p) (get_or counts key 0 + 1) 0 other)
              | false ↦ λ l. rw (past (grind (arith, nat_tests, l))) refl
            ] refl in
            rw now (counted-other t (is_in_path t span c p) n (count_in counts c p) (each c p within ∙ e) (counted.each c p column within))
      ] refl;
    }

-- there is room for one more
pub room-one : (t : Timeline) (span : Span) (n place key : ℕ) (change : Change) (counts : List ℕ) → n < length t.changes → length t.changes < 2 ^ 64 →
    is_step_after t n ≡ is_step change → (world_at t n).loc ≡ place → key_of span change n place ≡ Some key → AreCounted t span (suc n) counts →
    key < length counts → get_or counts key 0 + 1 < 2 ^ 64
room-one t span n place key change counts below few step here is counted inside =
    let c = key / 4000 in
    let p = key % 4000 in
    let same : c * 4000 + p ≡ key = omega arith in
    let within : p < 4000 = omega arith in
    let column : c < span.columns = omega (arith, inside, counted.size) in
    let counts_it : is_in_path t span c p n ≡ true = in-path t span n place change step here c p within ∙ rw (is, same) (grind (arith, nat_tests)) in
    let one : number_if (is_in_path t span c p n) 1 ≡ 1 = rw counts_it refl in
    let there : get_or counts key 0 ≡ count_in counts c p = ap (λ (k : ℕ). get_or counts k 0) (sym same) in
    omega (arith, one, there, few, counted.each c p column within, ones-below (is_in_path t span c p) (length t.changes))

none-before : (t : Timeline) (span : Span) (c p n : ℕ) → n ≤ span.from → sum_below n (λ i. number_if (is_in_path t span c p i) 1) ≡ 0
none-before t span c p zero before = refl
none-before t span c p (suc n) before =
    let outside : nat_le span.from n ≡ false = grind (arith, nat_tests, before) in
    let none : number_if (is_in_path t span c p n) 1 ≡ 0 = rw outside refl in
    omega (arith, none, none-before t span c p n (omega (arith, before)))

-- where the changes before the range are left, all is counted
pub IsPath-all : (t : Timeline) (span : Span) (n : ℕ) (counts : List ℕ) → n ≤ span.from → AreCounted t span n counts → IsPath t span counts
IsPath-all t span n counts before counted = λ c p column within. omega (arith, none-before t span c p n before, counted.each c p column within)

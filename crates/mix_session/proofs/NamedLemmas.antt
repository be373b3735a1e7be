-- What the values of a change do not name, the change does not alter; over plain variables.
use Rattle.std.proofs.Common.{◌≡◌, ◌<◌, ◌≤◌, ◌+◌, ◌-◌, ◌==◌, ◌∙◌, ◌≢◌, ◌++◌, ◌||◌, ℕ, zero, suc, Bool, true, false, List, [], ◌∷◌, Option, None, Some, length, map, max, min, inl, inr, refl, sym, ap, arith, ⊎_elim}
use Rattle.std.proofs.lemmas.Bool.{or_parts}
use Rattle.std.proofs.lemmas.Bool.Decides.{nat_tests}
use Rattle.std.proofs.lemmas.List.{append-nil, get_or-set_other}
use Rattle.std.proofs.lemmas.List.Folds.{list_any-append}
use Rattle.std.specs.Bool.{then_some}
use Rattle.std.specs.List.{filter, list_any, range_with_len}
use Rattle.std.specs.Option.{option_and_then}
use Rattle.undo_core.specs.Replay.{put_back}
use Rattle.mix_machine.specs.Prelude.{WorldState, cell_of, has_break, unit_at, put_value, set_value, fits, mark_of, mark_given, mark_before}
use Rattle.mix_machine.specs.declared.old.Old.{Old}
use Rattle.mix_machine.specs.declared.part.Part.{Part}
use Rattle.mix_machine.specs.declared.part.Mark.{Mark}
use Rattle.mix_machine.specs.declared.old.Old.TheVariants as old
use Rattle.mix_machine.specs.declared.part.Part.TheVariants.{Cell, Unit as Device}
use Rattle.mix_session.specs.Prelude.{count_of, part_of, is_altered, Cells, Breaks, Units}
use Rattle.mix_session.specs.Named.{is_of, is_number, IsOutside, Covers, HoldsAll, Leads}
use Rattle.mix_session.specs.declared.altered.Kind.{Kind}
use Rattle.mix_session.specs.declared.altered.near.Numbers.{Numbers}
use Rattle.mix_session.specs.declared.altered.near.Named.{Named}
use Rattle.mix_session.proofs.AlteredLemmas.{filter-range}
use Rattle.mix_session.proofs.ConditionLemmas.{AlteredLaw, BeforeLaw}
use Rattle.mix_session.proofs.SameWorld.{SameUnits, unaltered}

-- a value of another cell gives no mark of this one, nor one of another unit
cell-ungiven : (o : Old) (p : ℕ) → is_of Cells p o ≡ false → mark_given o (Cell p) ≡ None
cell-ungiven (old.Loc n) p none = refl
cell-ungiven (old.Clock t) p none = refl
cell-ungiven (old.Reg r v) p none = refl
cell-ungiven (old.Cell q v) p none = rw none refl
cell-ungiven (old.Over b) p none = refl
cell-ungiven (old.Cmp c) p none = refl
cell-ungiven (old.Break q b) p none = refl
cell-ungiven (old.At n k) p none = refl
cell-ungiven (old.Len n k) p none = refl
cell-ungiven (old.Item n i j v) p none = refl
cell-ungiven (old.Until n t) p none = refl

unit-ungiven : (o : Old) (n : ℕ) → is_of Units n o ≡ false → mark_given o (Device n) ≡ None
unit-ungiven (old.Loc m) n none = refl
unit-ungiven (old.Clock t) n none = refl
unit-ungiven (old.Reg r v) n none = refl
unit-ungiven (old.Cell q v) n none = refl
unit-ungiven (old.Over b) n none = refl
unit-ungiven (old.Cmp c) n none = refl
unit-ungiven (old.Break q b) n none = refl
unit-ungiven (old.At m k) n none = refl
unit-ungiven (old.Len m k) n none = refl
unit-ungiven (old.Item m i j v) n none = refl
unit-ungiven (old.Until m t) n none = rw none refl

cell-unmarked : (olds : List Old) (p : ℕ) (m : Mark) → list_any (is_of Cells p) olds ≡ false → mark_before olds (Cell p) m ≡ m
cell-unmarked [] p m none = refl
cell-unmarked (o ∷ os) p m none =
    let parts = or_parts (is_of Cells p o) (list_any (is_of Cells p) os) none in
    rw (cell-ungiven o p parts.0) (cell-unmarked os p m parts.1)

unit-unmarked : (olds : List Old) (n : ℕ) (m : Mark) → list_any (is_of Units n) olds ≡ false → mark_before olds (Device n) m ≡ m
unit-unmarked [] n m none = refl
unit-unmarked (o ∷ os) n m none =
    let parts = or_parts (is_of Units n o) (list_any (is_of Units n) os) none in
    rw (unit-ungiven o n parts.0) (unit-unmarked os n m parts.1)

-- one value put back alters no breakpoint but its own
other-number : (m n : ℕ) → (m == n) ≡ false → n ≢ m
other-number m n none same = let is : (m == n) ≡ true = grind (arith, nat_tests) in absurd (cc)

break-set : (o : Old) (w : WorldState) (p : ℕ) → is_of Breaks p o ≡ false → has_break (set_value w o) p ≡ has_break w p
break-set (old.Loc n) w p none = refl
break-set (old.Clock t) w p none = refl
break-set (old.Reg r v) w p none = refl
break-set (old.Cell q v) w p none = refl
break-set (old.Over b) w p none = refl
break-set (old.Cmp c) w p none = refl
break-set (old.Break q b) w p none = get_or-set_other w.breaks q p b false (other-number q p none)
break-set (old.At n k) w p none = refl
break-set (old.Len n k) w p none = refl
break-set (old.Item n i j v) w p none = refl
break-set (old.Until n t) w p none = refl

break-put : (o : Old) (w v : WorldState) (p : ℕ) → is_of Breaks p o ≡ false → put_value w o ≡ Some v → has_break v p ≡ has_break w p
break-put o w v p none e =
    (elim (fits w o) as (λ b. then_some b (set_value w o) ≡ Some v → has_break v p ≡ has_break w p) [
      | true ↦ λ h. let same : set_value w o ≡ v = cc in rw (← same) (break-set o w p none)
      | false ↦ λ h. absurd (cc)
    ]) e

break-kept : (olds : List Old) (w v : WorldState) (p : ℕ) → list_any (is_of Breaks p) olds ≡ false → put_back put_value olds w ≡ Some v →
    has_break v p ≡ has_break w p
break-kept [] w v p none e = let same : w ≡ v = cc in rw same refl
break-kept (o ∷ os) w v p none e =
    let parts = or_parts (is_of Breaks p o) (list_any (is_of Breaks p) os) none in
    (elim (put_back put_value os w) as (λ r. put_back put_value os w ≡ r → option_and_then (λ t. put_value t o) r ≡ Some v → has_break v p ≡ has_break w p) [
      | None ↦ λ f h. absurd (cc)
      | Some t ↦ λ f h. break-put o t v p parts.0 h ∙ break-kept os w t p parts.1 f
    ]) refl e

-- what no value names does not differ
unnamed : BeforeLaw → AlteredLaw → SameUnits → (kept : List Old) (v w : WorldState) → Leads kept v w → (kind : Kind) (n : ℕ) → n < count_of kind →
    list_any (is_of kind n) kept ≡ false → is_altered v w (part_of kind n) ≡ false
unnamed before altered units kept v w leads Cells p small none =
    let marks = sym (cell-unmarked kept p (mark_of w (Cell p)) none) ∙ before kept w v (Cell p) leads.ends small leads.back in
    let same : cell_of v p ≡ cell_of w p = cc in
    (unaltered v w units (part_of Cells p)).1 same
unnamed before altered units kept v w leads Breaks p small none =
    (unaltered v w units (part_of Breaks p)).1 (break-kept kept w v p none leads.back)
unnamed before altered units kept v w leads Units n small none =
    let marks = sym (unit-unmarked kept n (mark_of w (Device n)) none) ∙ before kept w v (Device n) leads.ends small leads.back in
    let same : (unit_at v n).until ≡ (unit_at w n).until = cc in
    let equal : ((unit_at v n).until == (unit_at w n).until) ≡ true = grind (arith, nat_tests) in
    altered v w leads.change (Device n) leads.begins small leads.given ∙ rw equal refl

pub covers : BeforeLaw → AlteredLaw → SameUnits → (kept : List Old) (v w : WorldState) → Leads kept v w → (kind : Kind) (numbers : Numbers) →
    numbers.end ≤ count_of kind → ((n : ℕ) → IsOutside numbers n → list_any (is_of kind n) kept ≡ false) → Covers kind numbers v w
covers before altered units kept v w leads kind numbers within others =
    record { within = within; others = λ n small outside. unnamed before altered units kept v w leads kind n small (others n outside) }

-- all that there are
covers-all : (kind : Kind) (v w : WorldState) (numbers : Numbers) → numbers.first ≡ 0 → numbers.end ≡ count_of kind → Covers kind numbers v w
covers-all kind v w numbers first end =
    record {
      within = omega (arith, end);
      others = λ n small outside. ⊎_elim (λ (before : n < numbers.first). absurd (omega (arith, before, first))) (λ (past : numbers.end ≤ n). absurd (omega (arith, past, end, small))) outside;
    }

pub holds_all : (named : Named) (v w : WorldState) → named.cells.first ≡ 0 → named.cells.end ≡ 4000 → named.breaks.first ≡ 0 → named.breaks.end ≡ 4000 →
    named.units.first ≡ 0 → named.units.end ≡ 21 → HoldsAll named v w
holds_all named v w a b c d e f =
    record { cells = covers-all Cells v w named.cells a b; breaks = covers-all Breaks v w named.breaks c d; units = covers-all Units v w named.units e f }

-- Of the numbers from a first one up to an end, where no others pass, those below the end that passed.
none-of : {X : Type 0} (p : X → Bool) (of : ℕ → X) (k : ℕ) → ((n : ℕ) → n < k → p (of n) ≡ false) → filter p (map of (range_with_len 0 k)) ≡ []
none-of p of zero none = refl
none-of p of (suc k) none =
    let before = none-of p of k (λ n below. none n (omega (arith, below))) in
    let last : filter p (of k ∷ []) ≡ [] = rw (none k (omega arith)) refl in
    let next : suc k ≡ k + 1 = omega arith in
    let none_here : filter p (map of (range_with_len 0 k)) ++ filter p (of k ∷ []) ≡ [] = rw (before, last) refl in
    ap (λ (i : ℕ). filter p (map of (range_with_len 0 i))) next ∙ sym (filter-range p of k) ∙ none_here

more-of : {X : Type 0} (p : X → Bool) (of : ℕ → X) (k d : ℕ) → ((n : ℕ) → k ≤ n → n < k + d → p (of n) ≡ false) →
    filter p (map of (range_with_len 0 k)) ≡ filter p (map of (range_with_len 0 (k + d)))
more-of p of k zero none = let same : k ≡ k + 0 = omega arith in ap (λ (i : ℕ). filter p (map of (range_with_len 0 i))) same
more-of p of k (suc d) none =
    let before = more-of p of k d (λ n from below. none n from (omega (arith, below))) in
    let last : filter p (of (k + d) ∷ []) ≡ [] = rw (none (k + d) (omega arith) (omega arith)) refl in
    let next : k + d + 1 ≡ k + suc d = omega arith in
    before ∙ sym (append-nil (filter p (map of (range_with_len 0 (k + d))))) ∙ ap (λ xs. filter p (map of (range_with_len 0 (k + d))) ++ xs) (sym last)
    ∙ filter-range p of (k + d) ∙ ap (λ (i : ℕ). filter p (map of (range_with_len 0 i))) next

pub none-before : (v w : WorldState) (kind : Kind) (numbers : Numbers) → Covers kind numbers v w →
    filter (is_altered v w) (map (part_of kind) (range_with_len 0 (min numbers.first numbers.end))) ≡ []
none-before v w kind numbers c =
    none-of (is_altered v w) (part_of kind) (min numbers.first numbers.end)
    (λ n below. c.others n (omega (arith, below, c.within)) (inl (omega (arith, below))))

pub none-past : (v w : WorldState) (kind : Kind) (numbers : Numbers) → Covers kind numbers v w →
    filter (is_altered v w) (map (part_of kind) (range_with_len 0 numbers.end)) ≡ filter (is_altered v w) (map (part_of kind) (range_with_len 0 (count_of kind)))
none-past v w kind numbers c =
    let d = count_of kind - numbers.end in
    let all : numbers.end + d ≡ count_of kind = omega (arith, c.within) in
    more-of (is_altered v w) (part_of kind) numbers.end d (λ n from below. c.others n (omega (arith, below, all)) (inr from))
    ∙ ap (λ (i : ℕ). filter (is_altered v w) (map (part_of kind) (range_with_len 0 i))) all

-- One value more is looked at, the last of those left.
pub any-last : (p : Old → Bool) (olds left : List Old) (o : Old) → olds ≡ left ++ o ∷ [] → p o ≡ false → list_any p olds ≡ list_any p left
any-last p olds left o e none =
    rw (e, list_any-append, none)
    (elim (list_any p left) as (λ b. (b || (false || false)) ≡ b) [ true ↦ refl | false ↦ refl ])

pub any-none : (p : Old → Bool) (olds : List Old) → length olds ≡ 0 → list_any p olds ≡ false
any-none p [] none = refl
any-none p (o ∷ os) none = absurd (omega (arith, none))

-- a value that names none of the kind is of no number
pub none-named : (n : ℕ) (o r : Option ℕ) → r ≡ o → r ≡ None → is_number n o ≡ false
none-named n o r e none = rw (sym e ∙ none) refl

-- outside of numbers with one more, a number is outside of them and not that one
pub outside-others : (numbers more : Numbers) (k n : ℕ) → more.first ≡ min numbers.first k → more.end ≡ max numbers.end (k + 1) → IsOutside more n → IsOutside numbers n
outside-others numbers more k n first end outside =
    ⊎_elim (λ (before : n < more.first). inl (omega (arith, before, first))) (λ (past : more.end ≤ n). inr (omega (arith, past, end))) outside

pub outside-here : (numbers more : Numbers) (k n : ℕ) (o : Option ℕ) (r : Option ℕ) → more.first ≡ min numbers.first k → more.end ≡ max numbers.end (k + 1) → IsOutside more n →
    r ≡ o → r ≡ Some k → is_number n o ≡ false
outside-here numbers more k n o r first end outside e some =
    let other : (k == n) ≡ false =
    ⊎_elim (λ (before : n < more.first). let less : n < k = omega (arith, before, first) in grind (arith, nat_tests))
    (λ (past : more.end ≤ n). let more_than : k < n = omega (arith, past, end) in grind (arith, nat_tests)) outside in
    rw (sym e ∙ some) other

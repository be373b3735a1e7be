-- Facts of the lines of changes, over plain variables.
use Rattle.std.proofs.Common.{◌≡◌, ℕ, suc, ◌+◌, ◌-◌, ◌<◌, ◌≤◌, List, [], ◌++◌, length, take, min, get_or, reverse, flat_map, Bool, Option, Some, Ok, refl, sym, ap, ap₂, ◌∙◌, arith, if◌then◌else◌}
use Rattle.std.proofs.lemmas.List.{take-append-le, reverse-append, get_or_default, get_or_append_left, take_min}
use Rattle.std.proofs.Math.Seq.{take-append_seam, take-length}
use Rattle.std.specs.List.{range_with_len}
use Rattle.undo_core.specs.Replay.{replay}
use Rattle.mix_machine.specs.Prelude.{WorldState, does}
use Rattle.mix_machine.specs.declared.old.Change.{Change}
use Rattle.mix_machine.specs.declared.old.Change.TheVariants.{Step}
use Rattle.mix_session.specs.Change.{all_changes, world_at, change_at, change_line, change_line_at, chosen_line_at, is_chosen}
use Rattle.mix_session.specs.Prelude.{texts, IsMoment, Timeline, world_of, Condition}
use Rattle.mix_session.proofs.ConditionLemmas.{last-given}

-- the machine after the first changes of all
pub world_at-is : (t : Timeline) (n : ℕ) (w : WorldState) → replay does t.first (take n (t.changes ++ t.ahead)) ≡ Some w → world_at t n ≡ w
unfolding world_at
world_at-is t n w stands = rw stands refl

-- the machine after the first of the changes done
pub world_at-done : (t : Timeline) (n : ℕ) (w : WorldState) → n ≤ length t.changes → replay does t.first (take n t.changes) ≡ Some w → world_at t n ≡ w
world_at-done t n w within stands =
    let same : take n (t.changes ++ t.ahead) ≡ take n t.changes = take-append-le n t.changes t.ahead within in
    world_at-is t n w (ap (replay does t.first) same ∙ stands)

-- the machine after the first of all changes, or after all of them where there are fewer
pub world_at-all : (t : Timeline) (n m : ℕ) (all : List Change) (w : WorldState) → all ≡ t.changes ++ t.ahead → m ≡ min n (length all) →
    replay does t.first (take m (t.changes ++ t.ahead)) ≡ Some w → world_at t n ≡ w
world_at-all t n m all w e f stands =
    let least : m ≡ min n (length (t.changes ++ t.ahead)) = f ∙ ap (λ (xs : List Change). min n (length xs)) e in
    let same : take n (t.changes ++ t.ahead) ≡ take m (t.changes ++ t.ahead) =
    sym (take_min n (t.changes ++ t.ahead)) ∙ ap (λ (k : ℕ). take k (t.changes ++ t.ahead)) (sym least) in
    world_at-is t n w (ap (replay does t.first) same ∙ stands)

-- the one of a moment: after so many of all changes, or after all of them where there are fewer
pub moment_is : (t : Timeline) (n m length_of_all : ℕ) (all : List Change) (w : WorldState) → all ≡ all_changes t → length_of_all ≡ length all →
    m ≡ min n length_of_all → IsMoment t m w → w ≡ world_at t n
moment_is t n m length_of_all all w e l f moment = sym (world_at-all t n m all w e (f ∙ ap (min n) l) moment.1)

-- the machine now, as one after the first changes
pub replay-all : (t : Timeline) (done : ℕ) (v w : WorldState) → done ≡ length t.changes → replay does t.first t.changes ≡ Some v → w ≡ v →
    replay does t.first (take done t.changes) ≡ Some w
replay-all t done v w e stands f =
    let whole : take done t.changes ≡ t.changes = ap (λ n. take n t.changes) e ∙ take-length t.changes in
    ap (replay does t.first) whole ∙ stands ∙ ap Some (sym f)

-- the machine after all changes done is the one now
pub world_at-now : (t : Timeline) → world_at t (length t.changes) ≡ world_of t
unfolding world_at world_of
world_at-now t = rw (take-append_seam t.changes t.ahead) refl

-- the line of a change that is done
pub change_line_at-done : (t : Timeline) (n : ℕ) (change : Change) (v w : WorldState) → n < length t.changes → change ≡ get_or t.changes n change →
    replay does t.first (take n t.changes) ≡ Some v → replay does t.first (take (n + 1) t.changes) ≡ Some w →
    change_line (n + 1) change v w ≡ change_line_at t (n + 1)
change_line_at-done t n change v w below done from to =
    let one : n + 1 - 1 ≡ n = omega arith in
    let here : change_at t (n + 1) ≡ change =
    ap (λ (i : ℕ). get_or (t.changes ++ t.ahead) i Step) one ∙ get_or_append_left t.changes t.ahead Step n below ∙ get_or_default t.changes n Step change below
    ∙ sym done in
    let before : world_at t (n + 1 - 1) ≡ v = ap (world_at t) one ∙ world_at-done t n v (omega arith) from in
    rw (here, before, world_at-done t (n + 1) w (omega arith) to) refl

-- the line of a change that is done, if it is chosen
pub chosen_line_at-done : (chosen : Option Condition) (t : Timeline) (n : ℕ) (v w : WorldState) (b : Bool) → n < length t.changes →
    replay does t.first (take n t.changes) ≡ Some v → replay does t.first (take (n + 1) t.changes) ≡ Some w →
    ((c : Change) → does v c ≡ Ok w → b ≡ is_chosen chosen v w) → (if b then change_line_at t (n + 1) else []) ≡ chosen_line_at chosen t (n + 1)
chosen_line_at-done chosen t n v w b below from to is =
    let given = last-given t.first t.changes n v w below from to in
    let one : n + 1 - 1 ≡ n = omega arith in
    let before : world_at t (n + 1 - 1) ≡ v = ap (world_at t) one ∙ world_at-done t n v (omega arith) from in
    let after : world_at t (n + 1) ≡ w = world_at-done t (n + 1) w (omega arith) to in
    let met : b ≡ is_chosen chosen (world_at t (n + 1 - 1)) (world_at t (n + 1)) = is given.0 given.1 ∙ ap₂ (is_chosen chosen) (sym before) (sym after) in
    ap (λ (a : Bool). if a then change_line_at t (n + 1) else []) met

-- the line of the next change ahead
pub change_line_at-next : (t : Timeline) (n : ℕ) (change : Change) (v w : WorldState) → n ≡ length t.changes + 1 → change ≡ change_at t (length t.changes + 1) →
    v ≡ world_of t → w ≡ world_at t n → change_line n change v w ≡ change_line_at t (length t.changes + 1)
change_line_at-next t n change v w here what from to =
    let one : length t.changes + 1 - 1 ≡ length t.changes = omega arith in
    let before : world_at t (length t.changes + 1 - 1) ≡ v = ap (world_at t) one ∙ world_at-now t ∙ sym from in
    rw (before, to, here, what) refl

-- the text of the first of some numbers stands first
texts-first : (f : ℕ → List ℕ) (n end : ℕ) → n < end → texts f n end ≡ f n ++ texts f (n + 1) end
unfolding texts
texts-first f n end below =
    let more : end - n ≡ suc (end - (n + 1)) = omega arith in
    ap (λ (k : ℕ). flat_map f (range_with_len n k)) more

-- one text more in front of texts that are written backwards
pub reversed-next : (f : ℕ → List ℕ) (k j end : ℕ) (now next : List ℕ) → k + 1 ≡ j → j < end → now ≡ reverse (texts f (j + 1) end) →
    next ≡ now ++ reverse (f (k + 1)) → next ≡ reverse (texts f (k + 1) end)
reversed-next f k j end now next here below so_far added =
    let whole : texts f j end ≡ f j ++ texts f (j + 1) end = texts-first f j end below in
    rw here (added ∙ ap (λ xs. xs ++ reverse (f (k + 1))) so_far ∙ ap (λ (i : ℕ). reverse (texts f (j + 1) end) ++ reverse (f i)) here
    ∙ sym (reverse-append (f j) (texts f (j + 1) end)) ∙ ap reverse (sym whole))

-- the texts of no numbers
pub texts-none : (f : ℕ → List ℕ) (n m : ℕ) → n ≡ m → [] ≡ texts f n m
unfolding texts
texts-none f n m e = let none : m - n ≡ 0 = omega (arith, e) in rw none refl

pub reversed-none : (f : ℕ → List ℕ) (n m : ℕ) → n ≡ m → [] ≡ reverse (texts f n m)
reversed-none f n m e = rw (← texts-none f n m e) refl

-- Facts of the transfers under way and of the lines of what conflicts, over plain variables.
use Rattle.std.proofs.Common.{◌≡◌, ℕ, suc, ◌+◌, ◌-◌, ◌<◌, List, [], ◌∷◌, ◌++◌, length, take, get_or, Option, None, Some, refl, sym, ap, ◌∙◌, arith, add-one, append_assoc}
use Rattle.std.proofs.lemmas.List.{get_or_default}
use Rattle.undo_core.specs.Replay.{replay}
use Rattle.mix_machine.specs.Prelude.{WorldState, does, TransfersState, transfers_after, conflict_of}
use Rattle.mix_machine.specs.declared.old.Change.{Change}
use Rattle.mix_machine.specs.declared.old.Change.TheVariants.{Step}
use Rattle.mix_machine.specs.declared.transfers.Conflict.{Conflict}
use Rattle.mix_session.specs.Change.{world_at, change_at, change_front}
use Rattle.mix_session.specs.Prelude.{transfers_at, conflict_at, conflict_column, conflict_line_at, texts, Timeline}
use Rattle.mix_session.proofs.ChangeLemmas.{world_at-is}
use Rattle.mix_session.proofs.ShowLemmas.{flat_map-range_next}

-- the change after the first ones of all
pub change_at-is : (t : Timeline) (n : ℕ) (change : Change) → n < length (t.changes ++ t.ahead) → change ≡ get_or (t.changes ++ t.ahead) n change →
    change_at t (n + 1) ≡ change
change_at-is t n change below at =
    let one : n + 1 - 1 ≡ n = omega arith in
    ap (λ (i : ℕ). get_or (t.changes ++ t.ahead) i Step) one ∙ get_or_default (t.changes ++ t.ahead) n Step change below ∙ sym at

-- what it conflicts with
pub conflict_at-is : (t : Timeline) (n : ℕ) (change : Change) (ts : TransfersState) (w : WorldState) (found : Option Conflict) → n < length (t.changes ++ t.ahead) →
    change ≡ get_or (t.changes ++ t.ahead) n change → ts ≡ transfers_at t n → replay does t.first (take n (t.changes ++ t.ahead)) ≡ Some w →
    found ≡ conflict_of ts w change → found ≡ conflict_at t (n + 1)
unfolding conflict_at
conflict_at-is t n change ts w found below at know led is =
    let one : n + 1 - 1 ≡ n = omega arith in
    let here : change_at t (n + 1) ≡ change = change_at-is t n change below at in
    let before : world_at t (n + 1 - 1) ≡ w = ap (world_at t) one ∙ world_at-is t n w led in
    let known : transfers_at t (n + 1 - 1) ≡ ts = ap (transfers_at t) one ∙ sym know in
    is ∙ rw (here, before, known) refl

-- the transfers after it
pub transfers_at-next : (t : Timeline) (n : ℕ) (change : Change) (ts next : TransfersState) (w : WorldState) → n < length (t.changes ++ t.ahead) →
    change ≡ get_or (t.changes ++ t.ahead) n change → ts ≡ transfers_at t n → replay does t.first (take n (t.changes ++ t.ahead)) ≡ Some w →
    next ≡ transfers_after ts w change → next ≡ transfers_at t (n + 1)
transfers_at-next t n change ts next w below at know led is =
    let here : change_at t (suc n) ≡ change = rw add-one at (change_at-is t n change below at) in
    let before : world_at t n ≡ w = world_at-is t n w led in
    rw add-one (is ∙ rw (here, before, know) refl)

-- no line of it, where it does not conflict
pub no_line : (t : Timeline) (n : ℕ) → None ≡ conflict_at t n → [] ≡ conflict_line_at t n
no_line t n none = rw (← none) refl

-- the line of it, where it does
pub line_of_conflict : (t : Timeline) (n : ℕ) (change : Change) (v w : WorldState) (found : Conflict) → n < length (t.changes ++ t.ahead) →
    change ≡ get_or (t.changes ++ t.ahead) n change → replay does t.first (take n (t.changes ++ t.ahead)) ≡ Some v →
    replay does t.first (take (n + 1) (t.changes ++ t.ahead)) ≡ Some w → Some found ≡ conflict_at t (n + 1) →
    change_front (n + 1) change v w ++ (conflict_column found ++ 10 ∷ []) ≡ conflict_line_at t (n + 1)
line_of_conflict t n change v w found below at from to is =
    let one : n + 1 - 1 ≡ n = omega arith in
    let here : change_at t (n + 1) ≡ change = change_at-is t n change below at in
    let before : world_at t (n + 1 - 1) ≡ v = ap (world_at t) one ∙ world_at-is t n v from in
    let after : world_at t (n + 1) ≡ w = world_at-is t (n + 1) w to in
    rw (here, before, after, ← is) (sym (append_assoc (change_front (n + 1) change v w) (conflict_column found) (10 ∷ [])))

-- one text more after texts
pub texts-more : (f : ℕ → List ℕ) (n : ℕ) (now next : List ℕ) → now ≡ texts f 1 (n + 1) → next ≡ now ++ f (n + 1) → next ≡ texts f 1 (n + 1 + 1)
unfolding texts
texts-more f n now next so_far added =
    let more = flat_map-range_next f 1 (n + 1) (omega arith) in
    added ∙ ap (λ xs. xs ++ f (n + 1)) so_far ∙ more

-- What a run knows of conflicts while it goes on, over plain variables.
use Rattle.std.proofs.Common.{◌≡◌, ◌≢◌, ℕ, zero, suc, ◌+◌, ◌-◌, ◌<◌, ◌≤◌, ◌||◌, Bool, true, false, List, [], ◌∷◌, ◌++◌, length, take, get_or, min, Option, None, Some, Result, Ok, Err, is_some, refl, sym, ap, ◌∙◌, arith, eqb, length-append, append_assoc, below_more, if◌then◌else◌}
use Rattle.std.proofs.lemmas.Bool.Decides.{nat_tests}
use Rattle.std.proofs.lemmas.List.{get_or-take, length-take-le, take-take}
use Rattle.std.proofs.Math.Nat.{min-le_left, min-le_right}
use Rattle.std.proofs.Math.Seq.{take-append_seam, get_or-append_seam}
use Rattle.std.specs.Result.{IfOk}
use Rattle.mix_refused.specs.declared.refused.Memory.{Memory}
use Rattle.undo_core.specs.Replay.{replay}
use Rattle.mix_machine.specs.Prelude.{WorldState, does, TransfersState, transfers_after, conflict_of}
use Rattle.mix_machine.specs.declared.old.Change.{Change}
use Rattle.mix_machine.specs.declared.old.Change.TheVariants.{Step}
use Rattle.mix_machine.specs.declared.transfers.Conflict.{Conflict}
use Rattle.mix_session.specs.Prelude.{world_at, change_at, least_below, move_conflicts, end_of_more, is_conflict, transfers_at, conflict_at, last_conflicts, Timeline, world_of, back_by, forth_by, with_change, begins_with_step, moved_once, Way, New, Again, Back, Condition}
use Rattle.mix_session.specs.Known.{KnownState, has_conflict, IsLast, IsKnown, Knows, LooksAt, LooksOn, Tells}
use Rattle.mix_session.specs.declared.reply.End.TheVariants.{Start}
use Rattle.mix_session.proofs.CommandLemmas.{least_below-is}
use Rattle.mix_session.proofs.ConflictLemmas.{conflict_at-is, transfers_at-next}
use Rattle.mix_session.proofs.TimelineLemmas.{world_of-is, back_by-all, first-step}

-- ---- what stands after the first changes does not matter to them

world_at-first : (s t : Timeline) (n : ℕ) → s.first ≡ t.first → take n (s.changes ++ s.ahead) ≡ take n (t.changes ++ t.ahead) → world_at s n ≡ world_at t n
unfolding world_at
world_at-first s t n first same = rw (first, same) refl

fewer : (n : ℕ) (xs ys : List Change) → take (suc n) xs ≡ take (suc n) ys → take n xs ≡ take n ys
fewer n xs ys same = sym (take-take n (suc n) xs (omega arith)) ∙ ap (take n) same ∙ take-take n (suc n) ys (omega arith)

at_end : (n : ℕ) (xs ys : List Change) → take (suc n) xs ≡ take (suc n) ys → get_or xs n Step ≡ get_or ys n Step
at_end n xs ys same =
    sym (get_or-take (suc n) xs n Step (omega arith)) ∙ ap (λ (zs : List Change). get_or zs n Step) same ∙ get_or-take (suc n) ys n Step (omega arith)

transfers_at-first : (s t : Timeline) (n : ℕ) → s.first ≡ t.first → take n (s.changes ++ s.ahead) ≡ take n (t.changes ++ t.ahead) → transfers_at s n ≡ transfers_at t n
transfers_at-first s t zero first same = refl
transfers_at-first s t (suc n) first same =
    let before = fewer n (s.changes ++ s.ahead) (t.changes ++ t.ahead) same in
    let one : suc n - 1 ≡ n = omega arith in
    let what : change_at s (suc n) ≡ change_at t (suc n) =
    ap (λ (i : ℕ). get_or (s.changes ++ s.ahead) i Step) one ∙ at_end n (s.changes ++ s.ahead) (t.changes ++ t.ahead) same
    ∙ ap (λ (i : ℕ). get_or (t.changes ++ t.ahead) i Step) (sym one) in
    let known : transfers_at s n ≡ transfers_at t n = transfers_at-first s t n first before in
    let here : world_at s n ≡ world_at t n = world_at-first s t n first before in
    rw (known, here, what) refl

-- the same changes conflict, whichever of them are done
conflict_at-all : (s t : Timeline) (n : ℕ) → s.first ≡ t.first → s.changes ++ s.ahead ≡ t.changes ++ t.ahead → conflict_at s n ≡ conflict_at t n
unfolding conflict_at
conflict_at-all s t n first all =
    let before : take (n - 1) (s.changes ++ s.ahead) ≡ take (n - 1) (t.changes ++ t.ahead) = ap (take (n - 1)) all in
    let known : transfers_at s (n - 1) ≡ transfers_at t (n - 1) = transfers_at-first s t (n - 1) first before in
    let here : world_at s (n - 1) ≡ world_at t (n - 1) = world_at-first s t (n - 1) first before in
    let what : change_at s n ≡ change_at t n = ap (λ (xs : List Change). get_or xs (n - 1) Step) all in
    rw (known, here, what) refl

-- ---- one change more is done

-- a change is done next
pub record IsNext (t next : Timeline) (c : Change) : Type 0 where
  pub first : next.first ≡ t.first
  pub changes : next.changes ≡ t.changes ++ c ∷ []

next-all : (t next : Timeline) (c : Change) → IsNext t next c → next.changes ++ next.ahead ≡ t.changes ++ c ∷ next.ahead
next-all t next c is = rw is.changes (append_assoc t.changes (c ∷ []) next.ahead)

next-count : (t next : Timeline) (c : Change) → IsNext t next c → length next.changes ≡ length t.changes + 1
next-count t next c is = rw is.changes (length-append t.changes (c ∷ []))

-- what is known of the timeline with it
record Goes (t next : Timeline) (c : Change) : Type 0 where
  below : length t.changes < length (next.changes ++ next.ahead)
  at : c ≡ get_or (next.changes ++ next.ahead) (length t.changes) c
  before : take (length t.changes) (next.changes ++ next.ahead) ≡ t.changes

goes : (t next : Timeline) (c : Change) → IsNext t next c → Goes t next c
goes t next c is =
    let all = next-all t next c is in
    record {
      below = rw all (omega (arith, length-append t.changes (c ∷ next.ahead)));
      at = rw all (sym (get_or-append_seam t.changes c next.ahead c));
      before = rw all (take-append_seam t.changes (c ∷ next.ahead));
    }

known-before : (t next : Timeline) (c : Change) → IsNext t next c → transfers_at t (length t.changes) ≡ transfers_at next (length t.changes)
known-before t next c is =
    transfers_at-first t next (length t.changes) (sym is.first) (take-append_seam t.changes t.ahead ∙ sym (goes t next c is).before)

led-before : (t next : Timeline) (c : Change) (v : WorldState) → IsNext t next c → replay does t.first t.changes ≡ Some v →
    replay does next.first (take (length t.changes) (next.changes ++ next.ahead)) ≡ Some v
led-before t next c v is here = rw (is.first, (goes t next c is).before) here

-- the transfers after it
transfers-next : (t next : Timeline) (c : Change) (v : WorldState) (old new : TransfersState) → IsNext t next c → replay does t.first t.changes ≡ Some v →
    old ≡ transfers_at t (length t.changes) → new ≡ transfers_after old v c → new ≡ transfers_at next (length next.changes)
transfers-next t next c v old new is here know made =
    rw (next-count t next c is)
    (transfers_at-next next (length t.changes) c old new v (goes t next c is).below (goes t next c is).at (know ∙ known-before t next c is) (led-before t next c v is here) made)

-- whether it conflicts
conflicts-next : (t next : Timeline) (c : Change) (v : WorldState) (old : TransfersState) → IsNext t next c → replay does t.first t.changes ≡ Some v →
    old ≡ transfers_at t (length t.changes) → is_some (conflict_of old v c) ≡ last_conflicts next
conflicts-next t next c v old is here know =
    rw (next-count t next c is)
    (ap is_some (conflict_at-is next (length t.changes) c old v (conflict_of old v c) (goes t next c is).below (goes t next c is).at (know ∙ known-before t next c is) (led-before t next c v is here) refl))

-- a change is looked at that is done next: whether it conflicts, and what is known after it
pub looked_at-next : (t next : Timeline) (c : Change) (v : WorldState) (old new : KnownState) (told : Bool) → IsNext t next c → replay does t.first t.changes ≡ Some v →
    old.transfers ≡ transfers_at t (length t.changes) → LooksAt c t old new told →
    (told ≡ last_conflicts next) × (new.transfers ≡ transfers_at next (length next.changes))
looked_at-next t next c v old new told is here know looks =
    let state : world_of t ≡ v = world_of-is t t v refl here in (
      looks.1 ∙ rw state (conflicts-next t next c v old.transfers is here know),
      transfers-next t next c v old.transfers new.transfers is here know (looks.0 ∙ ap (λ (w : WorldState). transfers_after old.transfers w c) state),
    )

-- ---- which of the changes done is the last that conflicts

-- of no changes
pub last_none : (t : Timeline) → IsLast t 0 0
last_none t = record { within = omega arith; after = λ k above within. absurd (omega (arith, above, within)); here = λ some. absurd (omega (arith, some)) }

last-more : (t : Timeline) (last n : ℕ) (b : Bool) → is_some (conflict_at t (n + 1)) ≡ b → IsLast t last n → IsLast t (if b then n + 1 else last) (n + 1)
last-more t last n true found is =
    record { within = omega arith; after = λ k above within. absurd (omega (arith, above, within)); here = λ some. found }
last-more t last n false none is =
    let later = below_more (λ k. last < k → is_some (conflict_at t k) ≡ false) (n + 1) (λ k below above. is.after k above (omega (arith, below))) (λ above. none) in
    record { within = omega (arith, is.within); after = λ k above within. later k (omega (arith, within)) above; here = is.here }

-- of one change more
pub last_step : (t : Timeline) (last next n : ℕ) (found : Option Conflict) → IsLast t last n → found ≡ conflict_at t (n + 1) →
    next ≡ (if is_some found then n + 1 else last) → IsLast t next (n + 1)
last_step t last next n found is at next_is = rw (next_is, at) (last-more t last n (is_some (conflict_at t (n + 1))) refl is)

-- it is the last of all exactly where that conflicts
last-here : (t : Timeline) (last n : ℕ) (b : Bool) → eqb last n ≡ b → IsLast t last n → 0 < n → b ≡ is_some (conflict_at t n)
last-here t last n true decided is some =
    let same : last ≡ n = grind (arith, nat_tests) in
    sym (is.here (omega (arith, same, some))) ∙ ap (λ (k : ℕ). is_some (conflict_at t k)) same
last-here t last n false decided is some =
    let other : last ≢ n = grind (arith, nat_tests) in
    sym (is.after n (omega (arith, is.within, other)) (omega arith))

-- of one change fewer, which does not conflict
last-back : (t next : Timeline) (last : ℕ) → next ≡ back_by t 1 → 0 < length t.changes → eqb last (length t.changes) ≡ false → IsLast t last (length t.changes) →
    IsLast next last (length next.changes)
last-back t next last led some decided is =
    let other : last ≢ length t.changes = grind (arith, nat_tests) in
    let n = length t.changes - 1 in
    let count : length next.changes ≡ n = ap (λ (h : Timeline). length h.changes) led ∙ length-take-le n t.changes (omega arith) in
    let all : next.changes ++ next.ahead ≡ t.changes ++ t.ahead = ap (λ (h : Timeline). h.changes ++ h.ahead) led ∙ back_by-all t 1 in
    let same : (k : ℕ) → conflict_at next k ≡ conflict_at t k = λ k. conflict_at-all next t k (ap (λ (h : Timeline). h.first) led) all in
    record {
      within = omega (arith, count, is.within, other, some);
      after = λ k above within. ap is_some (same k) ∙ is.after k above (omega (arith, within, count));
      here = λ positive. ap is_some (same last) ∙ is.here positive;
    }

-- whether the change before the last k ones conflicts
conflicts-back : (t : Timeline) (k : ℕ) → last_conflicts (back_by t k) ≡ is_some (conflict_at t (length t.changes - k))
conflicts-back t k =
    let count : length (take (length t.changes - k) t.changes) ≡ length t.changes - k = length-take-le (length t.changes - k) t.changes (omega arith) in
    ap is_some (ap (conflict_at (back_by t k)) count ∙ conflict_at-all (back_by t k) t (length t.changes - k) refl (back_by-all t k))

min-is : (m n : ℕ) → min m n < m → min m n ≡ n
min-is m n below = omega (arith, below)

-- how many of the last changes stand after the last one that conflicts
pub conflict_back : (t : Timeline) (last most : ℕ) → most ≤ length t.changes → IsLast t last (length t.changes) →
    min most (length t.changes - last) ≡ least_below most (λ k. last_conflicts (back_by t k))
conflict_back t last most within is =
    let n = min most (length t.changes - last) in
    let few : n ≤ most = min-le_left most (length t.changes - last) in
    let near : n ≤ length t.changes - last = min-le_right most (length t.changes - last) in
    let here : n < most → last_conflicts (back_by t n) ≡ true = λ below.
    let at : n ≡ length t.changes - last = min-is most (length t.changes - last) below in
    let there : length t.changes - n ≡ last = omega (arith, at, is.within) in
    conflicts-back t n ∙ ap (λ (k : ℕ). is_some (conflict_at t k)) there ∙ is.here (omega (arith, at, below, within)) in
    sym (least_below-is most n (λ k. last_conflicts (back_by t k)) few here
    (λ j below. conflicts-back t j ∙ is.after (length t.changes - j) (omega (arith, below, near)) (omega arith)))

-- ---- a run

-- what a run needs to know that waits for no conflict
pub knows_nothing : (conditions : List Condition) (way : Way) (known : KnownState) (t : Timeline) → known.waits ≡ false → has_conflict conditions ≡ false →
    Knows conditions way known t
knows_nothing conditions way known t idle none = record { waits = idle ∙ sym none; is_known = λ waits. absurd (cc) }

known-any : (way : Way) (known : KnownState) (t : Timeline) → known.transfers ≡ transfers_at t (length t.changes) → IsLast t known.last (length t.changes) → IsKnown way known t
known-any New known t transfers last = transfers
known-any Again known t transfers last = transfers
known-any Back known t transfers last = last

-- what a run needs to know that waits for one
pub knows_all : (conditions : List Condition) (way : Way) (known : KnownState) (t : Timeline) → known.waits ≡ true → known.transfers ≡ transfers_at t (length t.changes) →
    IsLast t known.last (length t.changes) → has_conflict conditions ≡ true → Knows conditions way known t
knows_all conditions way known t waits transfers last some =
    record { waits = waits ∙ sym some; is_known = λ _. known-any way known t transfers last }

-- the same of some conditions, whichever way the run goes
pub known_waits : (conditions : List Condition) (t : Timeline) (r : Result KnownState Memory) → has_conflict conditions ≡ true →
    IfOk r (λ known. (cs : List Condition) (way : Way) → has_conflict cs ≡ true → Knows cs way known t) → IfOk r (λ known. (way : Way) → Knows conditions way known t)
known_waits conditions t (Ok known) some knows = λ way. knows conditions way some
known_waits conditions t (Err memory) some knows = tt

has-one : (conditions : List Condition) (i : ℕ) (c : Condition) → i < length conditions → c ≡ get_or conditions i c → is_conflict c ≡ true → has_conflict conditions ≡ true
has-one [] i c below at is = absurd (omega arith)
has-one (d ∷ ds) zero c below at is = let same : c ≡ d = at in rw (← same, is) refl
has-one (d ∷ ds) (suc i) c below at is =
    let more = has-one ds i c (omega arith) at is in
    elim (is_conflict d) as (λ b. (b || has_conflict ds) ≡ true) [ true ↦ refl | false ↦ more ]

-- where one of the conditions is a conflict, it is known which change back is the last that conflicts
pub last_known : (conditions : List Condition) (t : Timeline) (known : KnownState) (i : ℕ) (c : Condition) → i < length conditions → c ≡ get_or conditions i c →
    Knows conditions Back known t → is_conflict c ≡ true → IsLast t known.last (length t.changes)
last_known conditions t known i c below at knows is = knows.is_known (knows.waits ∙ has-one conditions i c below at is)

left-some : (t : Timeline) (b : Bool) → eqb (length t.changes) 0 ≡ b → (if b then Some Start else None) ≡ None → 0 < length t.changes
left-some t true decided more = absurd (cc)
left-some t false decided more = grind (arith, nat_tests)

step-next : (t next : Timeline) (b : Bool) → begins_with_step t.ahead ≡ b → next ≡ (if b then forth_by t 1 else with_change t Step) → IsNext t next Step
step-next t next true begins led =
    record {
      first = ap (λ (h : Timeline). h.first) led;
      changes = ap (λ (h : Timeline). h.changes) led ∙ ap (λ (cs : List Change). t.changes ++ cs) (first-step t.ahead begins);
    }
step-next t next false begins led = record { first = ap (λ (h : Timeline). h.first) led; changes = ap (λ (h : Timeline). h.changes) led }

-- one change more of a run: whether it conflicts
conflicts-on : (way : Way) (t next : Timeline) (v : WorldState) (old new : KnownState) (told : Bool) → IsKnown way old t → next ≡ moved_once way t →
    end_of_more way t ≡ None → replay does t.first t.changes ≡ Some v → LooksOn way t old new told → told ≡ move_conflicts way t next
conflicts-on New t next v old new told known led more here looks =
    let is : IsNext t next Step = record { first = ap (λ (h : Timeline). h.first) led; changes = ap (λ (h : Timeline). h.changes) led } in
    (looked_at-next t next Step v old new told is here known looks).0
conflicts-on Again t next v old new told known led more here looks =
    (looked_at-next t next Step v old new told (step-next t next (begins_with_step t.ahead) refl led) here known looks).0
conflicts-on Back t next v old new told known led more here looks =
    looks ∙ last-here t old.last (length t.changes) (eqb old.last (length t.changes)) refl known (left-some t (eqb (length t.changes) 0) refl more)

-- what is known after it, where it goes on
known-on : (way : Way) (t next : Timeline) (v : WorldState) (old new : KnownState) (told : Bool) → IsKnown way old t → next ≡ moved_once way t →
    end_of_more way t ≡ None → replay does t.first t.changes ≡ Some v → LooksOn way t old new told → new.last ≡ old.last → told ≡ false → IsKnown way new next
known-on New t next v old new told known led more here looks last none =
    let is : IsNext t next Step = record { first = ap (λ (h : Timeline). h.first) led; changes = ap (λ (h : Timeline). h.changes) led } in
    (looked_at-next t next Step v old new told is here known looks).1
known-on Again t next v old new told known led more here looks last none =
    (looked_at-next t next Step v old new told (step-next t next (begins_with_step t.ahead) refl led) here known looks).1
known-on Back t next v old new told known led more here looks last none =
    rw last (last-back t next old.last led (left-some t (eqb (length t.changes) 0) refl more) (sym looks ∙ none) known)

-- one change more of a run, which something may wait for
pub one_known : (conditions : List Condition) (way : Way) (t next : Timeline) (v : WorldState) (old new : KnownState) (told : Bool) → Knows conditions way old t →
    next ≡ moved_once way t → end_of_more way t ≡ None → replay does t.first t.changes ≡ Some v → new.waits ≡ old.waits → new.last ≡ old.last →
    (old.waits ≡ true → LooksOn way t old new told) →
    Tells conditions told (move_conflicts way t next) × ((has_conflict conditions ≡ true → told ≡ false) → Knows conditions way new next)
one_known conditions way t next v old new told knows led more here waits last looks = (
  λ some. let on : old.waits ≡ true = knows.waits ∙ some in conflicts-on way t next v old new told (knows.is_known on) led more here (looks on),
  λ none.
      record {
        waits = waits ∙ knows.waits;
        is_known = λ still.
            let on : old.waits ≡ true = sym waits ∙ still in
            known-on way t next v old new told (knows.is_known on) led more here (looks on) last (none (sym knows.waits ∙ on));
      },
)

next-one : (changes ahead : List Change) (c : Change) → 0 < length ahead → c ≡ get_or (changes ++ ahead) (length changes) Step → take 1 ahead ≡ c ∷ []
next-one changes [] c some at = absurd (omega arith)
next-one changes (d ∷ rest) c some at = let same : c ≡ d = at ∙ get_or-append_seam changes d rest Step in rw same refl

-- the next change ahead is done again, which something may wait for
pub forth_known : (conditions : List Condition) (t next : Timeline) (c : Change) (v : WorldState) (old new : KnownState) (told : Bool) → Knows conditions Again old t →
    0 < length t.ahead → next ≡ forth_by t 1 → c ≡ change_at t (length t.changes + 1) → replay does t.first t.changes ≡ Some v → new.waits ≡ old.waits →
    (old.waits ≡ true → LooksAt c t old new told) →
    Tells conditions told (last_conflicts next) × Knows conditions Again new next
forth_known conditions t next c v old new told knows some led change here waits looks =
    let one : length t.changes + 1 - 1 ≡ length t.changes = omega arith in
    let at : c ≡ get_or (t.changes ++ t.ahead) (length t.changes) Step = change ∙ ap (λ (i : ℕ). get_or (t.changes ++ t.ahead) i Step) one in
    let is : IsNext t next c =
    record {
      first = ap (λ (h : Timeline). h.first) led;
      changes = ap (λ (h : Timeline). h.changes) led ∙ ap (λ (cs : List Change). t.changes ++ cs) (next-one t.changes t.ahead c some at);
    } in (
      λ waited. let on : old.waits ≡ true = knows.waits ∙ waited in (looked_at-next t next c v old new told is here (knows.is_known on) (looks on)).0,
      record {
        waits = waits ∙ knows.waits;
        is_known = λ still. let on : old.waits ≡ true = sym waits ∙ still in (looked_at-next t next c v old new told is here (knows.is_known on) (looks on)).1;
      },
    )

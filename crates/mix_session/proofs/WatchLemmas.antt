-- Where plain steps go on that are done many at a time, no end of the run holds.
use Rattle.std.proofs.Common.{◌≡◌, ◌≢◌, ◌<◌, ◌==◌, ◌&&◌, ◌||◌, ◌∙◌, ℕ, Bool, true, false, not, List, [], ◌∷◌, length, length-set, set, get_or, Option, None, Some, refl, ap, arith, nat_lt, get_or-set_other, get_or-set_same, if◌then◌else◌}
use Rattle.std.proofs.lemmas.Bool.{and_parts}
use Rattle.std.proofs.lemmas.Bool.Decides.{nat_tests}
use Rattle.std.specs.List.{list_any}
use Rattle.mix_machine.specs.Prelude.{WorldState, has_break, instruction, is_plain_next, is_looked_at, is_same_mark, mark_of, ends_at}
use Rattle.mix_machine.specs.declared.part.Mark.{Mark}
use Rattle.mix_machine.specs.declared.many.Many.{Many}
use Rattle.mix_machine.specs.Watch.{WatchState, is_other, is_there, stops_at, with_all, with_location}
use Rattle.mix_session.specs.Prelude.{end_there, has_conflict, first_met, StopsState, is_awaited, is_at_break, New, Condition, Alters, At}
use Rattle.mix_session.specs.Plain.{AllowsMany, breaks_of, locations_of, watch_for}
use Rattle.mix_machine.specs.declared.many.Many.TheVariants.{Until}
use Rattle.mix_session.proofs.PlainLemmas.{on-plain}

or-parts : (a b : Bool) → (a || b) ≡ false → (a ≡ false) × (b ≡ false)
or-parts true b e = absurd (cc)
or-parts false b e = (refl, e)

not-true : (b : Bool) → not b ≡ true → b ≡ false
not-true true e = absurd (cc)
not-true false e = refl

second-false : (a b : Bool) → a ≡ true → (a && b) ≡ false → b ≡ false
second-false true b is e = e
second-false false b is e = absurd (cc)

-- a plain step is done at a cell
plain-cell : (w : WorldState) → is_plain_next w ≡ true → nat_lt w.loc 4000 ≡ true
plain-cell w plain = (and_parts (nat_lt w.loc 4000) (not (is_looked_at (instruction w).code)) plain).0

-- a place that is not among some, to which one was added
not-set : (locations : List Bool) (p q : ℕ) → q < length locations → get_or (set locations p true) q false ≡ false →
    ((p == q) ≡ false) × (get_or locations q false ≡ false)
not-set locations p q below out =
    (elim (p == q) as (λ b. (p == q) ≡ b → (b ≡ false) × (get_or locations q false ≡ false)) [
      | true ↦ λ e.
          let same : p ≡ q = grind (arith, nat_tests) in
          let there : get_or (set locations p true) q false ≡ true = rw same (get_or-set_same locations q true false below) in
          absurd (cc (there, out))
      | false ↦ λ e.
          let other : q ≢ p = grind (arith, nat_tests) in
          (refl, rw get_or-set_other at out)
    ]) refl

not-all : (ps : List ℕ) (locations : List Bool) (q : ℕ) → q < length locations → get_or (with_all ps locations) q false ≡ false →
    (list_any (λ p. p == q) ps ≡ false) × (get_or locations q false ≡ false)
not-all [] locations q below out = (refl, out)
not-all (p ∷ ps) locations q below out =
    let rest = not-all ps (set locations p true) q (omega (arith, below, length-set locations p true)) out in
    let first = not-set locations p q below rest.1 in
    (rw first.0 rest.0, first.1)

length-all : (ps : List ℕ) (locations : List Bool) → length (with_all ps locations) ≡ length locations
length-all [] locations = refl
length-all (p ∷ ps) locations = length-all ps (set locations p true) ∙ length-set locations p true

not-awaited : (n : ℕ) (b : Bool) (locations : List Bool) (q : ℕ) → nat_lt n 4000 ≡ b → q < length locations → length locations ≡ 4000 →
    get_or (if b then set locations n true else locations) q false ≡ false → ((q == n) ≡ false) × (get_or locations q false ≡ false)
not-awaited n true locations q is below long out =
    let parts = not-set locations n q below out in
    let apart : (q == n) ≡ false = grind (arith, nat_tests, parts.0) in
    (apart, parts.1)
not-awaited n false locations q is below long out =
    let apart : (q == n) ≡ false = grind (arith, nat_tests, is, below, long) in
    (apart, out)

not-location : (location : Option ℕ) (locations : List Bool) (w : WorldState) → w.loc < length locations → length locations ≡ 4000 →
    get_or (with_location location locations) w.loc false ≡ false → (is_awaited location w ≡ false) × (get_or locations w.loc false ≡ false)
not-location None locations w below long out = (refl, out)
not-location (Some n) locations w below long out = not-awaited n (nat_lt n 4000) locations w.loc refl below long out

no-break : (b : Bool) (w x : WorldState) → x.breaks ≡ w.breaks → get_or (breaks_of b w) x.loc false ≡ false → (b && is_at_break x) ≡ false
no-break false w x same out = refl
no-break true w x same out =
    let none : has_break x x.loc ≡ false = ap (λ (l : List Bool). get_or l x.loc false) same ∙ out in
    elim (nat_lt x.loc 4000) as (λ (c : Bool). (c && has_break x x.loc) ≡ false) [ true ↦ none | false ↦ refl ]

length-location : (location : Option ℕ) (locations : List Bool) → length (with_location location locations) ≡ length locations
length-location None locations = refl
length-location (Some n) locations =
    elim (nat_lt n 4000) as (λ (b : Bool). length (if b then set locations n true else locations) ≡ length locations)
    [ true ↦ length-set locations n true | false ↦ refl ]

length-breaks : (b : Bool) (w : WorldState) → length w.breaks ≡ 4000 → length (breaks_of b w) ≡ 4000
length-breaks true w long = long
length-breaks false w long = refl

length-locations : (stops : StopsState) (w : WorldState) → length w.breaks ≡ 4000 → length (locations_of stops w) ≡ 4000
length-locations stops w long =
    length-location stops.location (with_all stops.cells (breaks_of stops.breaks w)) ∙ length-all stops.cells (breaks_of stops.breaks w) ∙ length-breaks stops.breaks w long

-- no end holds at a location that is none of those at which the run stops
nothing-at : (stops : StopsState) (w x : WorldState) → length w.breaks ≡ 4000 → x.breaks ≡ w.breaks → x.loc < 4000 →
    get_or (locations_of stops w) x.loc false ≡ false → end_there stops x ≡ None
nothing-at stops w x long same below out =
    let base = breaks_of stops.breaks w in
    let base_long = length-breaks stops.breaks w long in
    let all_long : length (with_all stops.cells base) ≡ 4000 = length-all stops.cells base ∙ base_long in
    let location = not-location stops.location (with_all stops.cells base) x (omega (arith, below, all_long)) all_long out in
    let cells = not-all stops.cells base x.loc (omega (arith, below, base_long)) location.1 in
    rw (no-break stops.breaks w x same cells.1, cells.0, location.0) refl

-- the run goes on where the watch does not stop it
watched-none : (stops : StopsState) (w x : WorldState) (conditions : List Condition) (marks : List Mark) (watch : WatchState) → length w.breaks ≡ 4000 →
    x.breaks ≡ w.breaks → nat_lt x.loc 4000 ≡ true → watch_for conditions marks (locations_of stops w) ≡ Some watch → stops_at watch x ≡ false →
    (has_conflict conditions ≡ false) × (first_met false 0 conditions marks x ≡ None) × (end_there stops x ≡ None)
watched-none stops w x conditions marks watch long same cell is on =
    let below : x.loc < 4000 = grind (arith, nat_tests, cell) in
    let parts = or-parts (is_there watch.locations x) (is_other watch.seen x) on in
    let out = second-false (nat_lt x.loc 4000) (get_or watch.locations x.loc false) cell parts.0 in
    go conditions marks is parts.1 out below where
      go : (cs : List Condition) (ms : List Mark) → watch_for cs ms (locations_of stops w) ≡ Some watch → is_other watch.seen x ≡ false →
          get_or watch.locations x.loc false ≡ false → x.loc < 4000 → (has_conflict cs ≡ false) × (first_met false 0 cs ms x ≡ None) × (end_there stops x ≡ None)
      go [] ms is other out below =
          let same_watch : (record { locations = locations_of stops w; seen = None }) ≡ watch = cc in
          let none : get_or (locations_of stops w) x.loc false ≡ false = ap (λ (v : WatchState). get_or v.locations x.loc false) same_watch ∙ out in
          (refl, refl, nothing-at stops w x long same below none)
      go (Alters part ∷ []) (m ∷ ms) is other out below =
          let same_watch : (record { locations = locations_of stops w; seen = Some (record { part = part; mark = m }) }) ≡ watch = cc in
          let none : get_or (locations_of stops w) x.loc false ≡ false = ap (λ (v : WatchState). get_or v.locations x.loc false) same_watch ∙ out in
          let held : not (is_same_mark m (mark_of x part)) ≡ false = ap (λ (v : WatchState). is_other v.seen x) same_watch ∙ other in
          (refl, rw held refl, nothing-at stops w x long same below none)
      go (At place ∷ []) (m ∷ ms) is other out below =
          let same_watch : (record { locations = set (locations_of stops w) place true; seen = None }) ≡ watch = cc in
          let none : get_or (set (locations_of stops w) place true) x.loc false ≡ false = ap (λ (v : WatchState). get_or v.locations x.loc false) same_watch ∙ out in
          let apart = not-set (locations_of stops w) place x.loc (omega (arith, below, length-locations stops w long)) none in
          let away : (x.loc == place) ≡ false = grind (arith, nat_tests, apart.0) in
          (refl, rw away refl, nothing-at stops w x long same below apart.1)
      go _ _ is other out below = absurd (cc)

no-conflict : (conditions : List Condition) (marks : List Mark) (locations : List Bool) (watch : WatchState) → watch_for conditions marks locations ≡ Some watch →
    has_conflict conditions ≡ false
no-conflict [] marks locations watch is = refl
no-conflict (Alters part ∷ []) marks locations watch is = refl
no-conflict (At place ∷ []) marks locations watch is = refl
no-conflict _ _ locations watch is = absurd (cc)

-- what plain steps of a run may do many at a time, where what it stops at is watched
pub allows-watch : (stops : StopsState) (marks : List Mark) (w : WorldState) (watch : WatchState) → length w.breaks ≡ 4000 →
    watch_for stops.watched marks (locations_of stops w) ≡ Some watch → AllowsMany New stops marks w.breaks (Until watch)
allows-watch stops marks w watch long is =
    record {
      new = refl;
      conflicts = no-conflict stops.watched marks (locations_of stops w) watch is;
      going = λ x same on.
          let parts = on-plain (ends_at (Until watch)) x on in
          let none = watched-none stops w x stops.watched marks watch long same (plain-cell x parts.1) is (not-true (stops_at watch x) parts.0) in
          rw (none.1, none.2) refl;
    }

-- A run that goes on, over plain variables: what is known after so many changes, and that it holds after more of them.
use Rattle.std.proofs.Common.{◌≡◌, ◌+◌, ◌-◌, ◌<◌, ◌≤◌, ◌∙◌, ℕ, zero, suc, Bool, true, false, List, length, Option, None, Some, Ok, refl, ap, sym, subst, arith}
use Rattle.std.specs.Option.{IfSome, option_map, option_or}
use Rattle.std.specs.Result.{IsOk}
use Rattle.undo_core.specs.Replay.{replay}
use Rattle.mix_machine.specs.Prelude.{WorldState, does, is_plain_next, ends_at}
use Rattle.mix_machine.specs.declared.old.Change.TheVariants.{Step}
use Rattle.mix_machine.specs.declared.part.Mark.{Mark}
use Rattle.mix_machine.specs.declared.many.Many.{Many}
use Rattle.mix_session.specs.Prelude.{IsBefore, effect_of_run, end_of_last, end_at, end_there, fault_end, is_halt_done, KnownState, Knows, LooksOn, has_conflict, StopsState, Timeline, world_of, with_change, moved, Way, New, Again, Back, End, Until}
use Rattle.mix_session.specs.Marks.{AreMarks, HasMoved, IsMove, end_by_marks, first_met}
use Rattle.mix_session.specs.Plain.{AllowsMany, ArePlain, AreSteps, HasEnd, IsLeft, LeavesOff}
use Rattle.mix_session.proofs.CommandLemmas.{before-run, fault_end-ok, moved-next, moved_once-first, none_before-next}
use Rattle.mix_session.proofs.ConditionLemmas.{AlteredLaw}
use Rattle.mix_session.proofs.MarkLemmas.{AreMarks-after, WorldsLaw, first_met-later, marks_in}
use Rattle.mix_session.proofs.MoveLemmas.{one_more}
use Rattle.mix_session.proofs.PlainLemmas.{BreaksLaw, plain-no_halt}
use Rattle.mix_session.proofs.RunLemmas.{AreMarks-length, last_by_marks, met_none}
use Rattle.mix_session.proofs.TimelineLemmas.{world_of-is}

-- A run goes on after so many changes: where it stands, that no end held so far, and what is known for the next change.
pub record IsGoing (way : Way) (stops : StopsState) (t now : Timeline) (most done : ℕ) (marks : List Mark) (known : KnownState) (many : Option Many) : Type 0 where
  pub within : done ≤ most
  pub first : now.first ≡ t.first
  pub moved : now ≡ moved way t done
  pub going : end_of_last way stops t done ≡ None
  pub before : (k : ℕ) → k < done → end_at way stops t most k ≡ None
  pub marked : AreMarks stops.watched marks (world_of now)
  pub knows : Knows stops.watched way known now
  pub allows : IfSome many (λ m. AllowsMany way stops marks (world_of now).breaks m)

-- nothing is done yet
pub going-begins : (way : Way) (stops : StopsState) (t : Timeline) (most : ℕ) (marks : List Mark) (known : KnownState) (many : Option Many) (v : WorldState) →
    replay does t.first t.changes ≡ Some v → AreMarks stops.watched marks (world_of t) → Knows stops.watched way known t →
    IfSome many (λ m. AllowsMany way stops marks v.breaks m) → IsGoing way stops t t most 0 marks known many
going-begins way stops t most marks known many v here marked knows allows =
    record {
      within = omega arith;
      first = refl;
      moved = refl;
      going = refl;
      before = λ k below. absurd (omega (arith, below));
      marked = marked;
      knows = knows;
      allows = subst (λ (w : WorldState). IfSome many (λ m. AllowsMany way stops marks w.breaks m)) (sym (world_of-is t t v refl here)) allows;
    }

-- What is allowed stays so with the marks after a change that meets nothing, and the same breakpoints.
allows-later : (way : Way) (stops : StopsState) (before after : List Mark) (breaks later : List Bool) (told : Bool) (w : WorldState) (m : Many) →
    AreMarks stops.watched after w → length stops.watched ≡ length before → first_met told 0 stops.watched before w ≡ None → later ≡ breaks →
    AllowsMany way stops before breaks m → AllowsMany way stops after later m
allows-later way stops before after breaks later told w m marked count none same allows =
    record {
      new = allows.new;
      conflicts = allows.conflicts;
      going = λ x there on.
          ap (λ met. option_or (option_map Until met) (end_there stops x)) (first_met-later told false 0 0 stops.watched before after w x marked count none)
          ∙ allows.going x (there ∙ same) on;
    }

allows-some : (way : Way) (stops : StopsState) (before after : List Mark) (breaks later : List Bool) (told : Bool) (w : WorldState) (many : Option Many) →
    AreMarks stops.watched after w → length stops.watched ≡ length before → first_met told 0 stops.watched before w ≡ None → (way ≡ New → later ≡ breaks) →
    IfSome many (λ m. AllowsMany way stops before breaks m) → IfSome many (λ m. AllowsMany way stops after later m)
allows-some way stops before after breaks later told w None marked count none same allows = tt
allows-some way stops before after breaks later told w (Some m) marked count none same allows =
    allows-later way stops before after breaks later told w m marked count none (same allows.new) allows

-- What plain steps of a run that went on so far come to: where it stands, and what ends it there, if anything does.
record After (stops : StopsState) (t now next : Timeline) (most done : ℕ) (marks : List Mark) : Type 0 where
  first : next.first ≡ t.first
  moved : next ≡ moved New t done
  last : end_of_last New stops t done ≡ end_by_marks false false stops marks (world_of next)
  before : (k : ℕ) → k < done → end_at New stops t most k ≡ None
  breaks : (world_of next).breaks ≡ (world_of now).breaks

-- one step
after-one : AlteredLaw → BreaksLaw → WorldsLaw → (stops : StopsState) (t now : Timeline) (most done : ℕ) (marks : List Mark) (known : KnownState) (many : Option Many) →
    IsGoing New stops t now most done marks known many → has_conflict stops.watched ≡ false → is_plain_next (world_of now) ≡ true →
    does (world_of now) Step ≡ Ok (world_of (with_change now Step)) → done < most → After stops t now (with_change now Step) most (done + 1) marks
after-one altered breaks worlds stops t now most done marks known many g conflicts plain given below =
    let next = with_change now Step in
    let v = world_of now in
    let w = world_of next in
    let led = moved-next New t now next done g.moved refl in
    record {
      first = g.first;
      moved = led;
      last =
          last_by_marks altered New stops t done v w false false marks (marks_in stops.watched w) (ap world_of (sym g.moved)) (ap world_of (sym led)) given
          (λ some. absurd (cc (some, conflicts))) g.marked (AreMarks-after worlds stops.watched marks v w g.marked given) (sym (plain-no_halt v plain));
      before = none_before-next New stops t now most done g.going below g.moved (ap fault_end given) g.before;
      breaks = breaks v w given;
    }

-- a run goes on where no end holds after plain steps
going-after : (stops : StopsState) (t now next : Timeline) (most done : ℕ) (marks later : List Mark) (known : KnownState) (m : Many) → After stops t now next most done marks →
    end_by_marks false false stops marks (world_of next) ≡ None → done ≤ most → AreMarks stops.watched later (world_of next) → length stops.watched ≡ length marks →
    known.waits ≡ has_conflict stops.watched → AllowsMany New stops marks (world_of now).breaks m → IsGoing New stops t next most done later known (Some m)
going-after stops t now next most done marks later known m after on within marked count waits allows =
    record {
      within = within;
      first = after.first;
      moved = after.moved;
      going = after.last ∙ on;
      before = after.before;
      marked = marked;
      knows = record { waits = waits; is_known = λ some. absurd (cc (some, waits, allows.conflicts)) };
      allows =
          allows-later New stops marks later (world_of now).breaks (world_of next).breaks false (world_of next) m marked count
          (met_none false (first_met false 0 stops.watched marks (world_of next)) (end_there stops (world_of next)) on) after.breaks allows;
    }

-- and many
after-many : AlteredLaw → BreaksLaw → WorldsLaw → (stops : StopsState) (t now next : Timeline) (most done n : ℕ) (marks : List Mark) (known : KnownState) (m : Many) →
    IsGoing New stops t now most done marks known (Some m) → ArePlain (ends_at m) (suc n) now next → done + suc n ≤ most →
    After stops t now next most (done + suc n) marks
after-many altered breaks worlds stops t now next most done zero marks known m g plain within =
    let one = after-one altered breaks worlds stops t now most done marks known (Some m) g g.allows.conflicts plain.0 plain.1 (omega (arith, within)) in
    let count : done + 1 ≡ done + suc 0 = omega arith in
    subst (λ (s : Timeline). After stops t now s most (done + suc 0) marks) (sym plain.3)
    (subst (λ (k : ℕ). After stops t now (with_change now Step) most k marks) count one)
after-many altered breaks worlds stops t now next most done (suc n) marks known m g plain within =
    let led = with_change now Step in
    let w = world_of led in
    let one = after-one altered breaks worlds stops t now most done marks known (Some m) g g.allows.conflicts plain.0 plain.1 (omega (arith, within)) in
    let on = g.allows.going w one.breaks (plain.2 (omega arith)) in
    let marked = AreMarks-after worlds stops.watched marks (world_of now) w g.marked plain.1 in
    let count = AreMarks-length stops.watched marks (world_of now) g.marked in
    let there = going-after stops t now led most (done + 1) marks (marks_in stops.watched w) known m one on (omega (arith, within)) marked count g.knows.waits g.allows in
    let rest = after-many altered breaks worlds stops t led next most (done + 1) n (marks_in stops.watched w) known m there plain.3 (omega (arith, within)) in
    let same : done + 1 + suc n ≡ done + suc (suc n) = omega arith in
    subst (λ (k : ℕ). After stops t now next most k marks) same
    (record {
      first = rest.first;
      moved = rest.moved;
      last =
          rest.last
          ∙ ap (λ met. option_or (option_map Until met) (end_there stops (world_of next)))
          (first_met-later false false 0 0 stops.watched marks (marks_in stops.watched w) w (world_of next) marked count
          (met_none false (first_met false 0 stops.watched marks w) (end_there stops w) on));
      before = rest.before;
      breaks = rest.breaks ∙ one.breaks;
    })

-- What the plain steps that come next come to, of which there may be none: why the run ends there, if it does; and that it goes on, if it does not.
pub record ManyDone (way : Way) (stops : StopsState) (t next : Timeline) (most done : ℕ) (later : List Mark) (known : KnownState) (many : Option Many) (end : Option End) : Type 0 where
  pub first : next.first ≡ t.first
  pub moved : next ≡ moved way t done
  pub last : end_of_last way stops t done ≡ end
  pub before : (k : ℕ) → k < done → end_at way stops t most k ≡ None
  pub going : end ≡ None → IsGoing way stops t next most done later known many

many-none : (way : Way) (stops : StopsState) (t now next : Timeline) (most done n : ℕ) (marks later : List Mark) (known : KnownState) (many : Option Many) (end : Option End) →
    IsGoing way stops t now most done marks known many → n ≡ 0 → next ≡ now → HasEnd stops marks later n next end → ManyDone way stops t next most (done + n) later known many end
many-none way stops t now next most done n marks later known many end g none same has =
    let ends = has.none none in
    let count : done ≡ done + n = omega (arith, none) in
    let there : IsGoing way stops t next most (done + n) later known many =
    subst (λ (k : ℕ). IsGoing way stops t next most k later known many) count
    (subst (λ (s : Timeline). IsGoing way stops t s most done later known many) (sym same)
    (subst (λ (ms : List Mark). IsGoing way stops t now most done ms known many) (sym ends.1) g)) in
    record { first = there.first; moved = there.moved; last = there.going ∙ sym ends.0; before = there.before; going = λ _. there }

many-some : AlteredLaw → BreaksLaw → WorldsLaw → (stops : StopsState) (t now next : Timeline) (most done n : ℕ) (marks later : List Mark) (known : KnownState) (m : Many)
    (end : Option End) → IsGoing New stops t now most done marks known (Some m) → ArePlain (ends_at m) (suc n) now next → done + suc n ≤ most →
    HasEnd stops marks later (suc n) next end → ManyDone New stops t next most (done + suc n) later known (Some m) end
many-some altered breaks worlds stops t now next most done n marks later known m end g plain within has =
    let after = after-many altered breaks worlds stops t now next most done n marks known m g plain within in
    let ends = has.why (omega arith) in
    record {
      first = after.first;
      moved = after.moved;
      last = after.last ∙ sym ends;
      before = after.before;
      going = λ on. going-after stops t now next most (done + suc n) marks later known m after (sym ends ∙ on) within (has.marked (omega arith))
          (AreMarks-length stops.watched marks (world_of now) g.marked) g.knows.waits g.allows;
    }

pub going-many : AlteredLaw → BreaksLaw → WorldsLaw → (way : Way) (stops : StopsState) (t now next : Timeline) (most done n : ℕ) (marks later : List Mark) (known : KnownState)
    (many : Option Many) (end : Option End) → IsGoing way stops t now most done marks known many → AreSteps many n now next → done + n ≤ most →
    HasEnd stops marks later n next end → ManyDone way stops t next most (done + n) later known many end
going-many altered breaks worlds way stops t now next most done n marks later known None end g plain within has =
    many-none way stops t now next most done n marks later known None end g plain.0 plain.1 has
going-many altered breaks worlds way stops t now next most done zero marks later known (Some m) end g plain within has =
    many-none way stops t now next most done 0 marks later known (Some m) end g refl plain has
going-many altered breaks worlds New stops t now next most done (suc n) marks later known (Some m) end g plain within has =
    many-some altered breaks worlds stops t now next most done n marks later known m end g plain within has
going-many altered breaks worlds Again stops t now next most done (suc n) marks later known (Some m) end g plain within has = absurd (cc (g.allows.new))
going-many altered breaks worlds Back stops t now next most done (suc n) marks later known (Some m) end g plain within has = absurd (cc (g.allows.new))

-- a run that goes on, and has a step more to do for which there is no memory
left-none : (stops : StopsState) (t now : Timeline) (most done : ℕ) (marks : List Mark) (known : KnownState) (many : Option Many) →
    IsGoing New stops t now most done marks known many → IsOk (does (world_of now) Step) → done < most → IsBefore (effect_of_run New stops t most) now
left-none stops t now most done marks known many g ok below =
    before-run New stops t now most done g.moved below g.going (fault_end-ok (does (world_of now) Step) ok) g.before

left-new : AlteredLaw → BreaksLaw → WorldsLaw → (stops : StopsState) (t now next : Timeline) (most done n : ℕ) (marks : List Mark) (known : KnownState) (m : Many) →
    IsGoing New stops t now most done marks known (Some m) → ArePlain (ends_at m) n now next → done ≤ most → IsLeft (ends_at m) n (most - done) next →
    (next.first ≡ t.first) × IsBefore (effect_of_run New stops t most) next
left-new altered breaks worlds stops t now next most done zero marks known m g plain within left =
    let there = subst (λ (s : Timeline). IsGoing New stops t s most done marks known (Some m)) (sym plain) g in
    (there.first, left-none stops t next most done marks known (Some m) there left.more (omega (arith, left.fewer)))
left-new altered breaks worlds stops t now next most done (suc n) marks known m g plain within left =
    let below : done + suc n < most = omega (arith, left.fewer, within) in
    let after = after-many altered breaks worlds stops t now next most done n marks known m g plain (omega (arith, below)) in
    let on = after.last ∙ g.allows.going (world_of next) after.breaks (left.going (omega arith)) in
    (after.first, before-run New stops t next most (done + suc n) after.moved below on (fault_end-ok (does (world_of next) Step) left.more) after.before)

pub going-left : AlteredLaw → BreaksLaw → WorldsLaw → (way : Way) (stops : StopsState) (t now next : Timeline) (most done n : ℕ) (marks : List Mark) (known : KnownState)
    (many : Option Many) → IsGoing way stops t now most done marks known many → AreSteps many n now next → LeavesOff many n (most - done) next →
    (next.first ≡ t.first) × IsBefore (effect_of_run way stops t most) next × (way ≡ Back → ⊥)
going-left altered breaks worlds way stops t now next most done n marks known None g plain left = absurd left
going-left altered breaks worlds New stops t now next most done n marks known (Some m) g plain left =
    let new = left-new altered breaks worlds stops t now next most done n marks known m g plain g.within left in (new.0, new.1, λ back. absurd (cc (back)))
going-left altered breaks worlds Again stops t now next most done n marks known (Some m) g plain left = absurd (cc (g.allows.new))
going-left altered breaks worlds Back stops t now next most done n marks known (Some m) g plain left = absurd (cc (g.allows.new))

breaks-moved : BreaksLaw → (way : Way) (v w : WorldState) → IsMove way v w → way ≡ New → w.breaks ≡ v.breaks
breaks-moved law New v w move new = law v w move
breaks-moved law Again v w move new = absurd (cc (new))
breaks-moved law Back v w move new = absurd (cc (new))

-- What one change more of a run does that went on so far: where it stands then, and what ends it; and it goes on, if nothing does.
pub record OneMore (way : Way) (stops : StopsState) (t next : Timeline) (most done : ℕ) (halts told : Bool) (before after : List Mark) (new : KnownState) (many : Option Many) (w : WorldState) : Type 0 where
  pub moved : next ≡ moved way t (done + 1)
  pub last : end_of_last way stops t (done + 1) ≡ end_by_marks halts told stops before w
  pub going : end_by_marks halts told stops before w ≡ None → IsGoing way stops t next most (done + 1) after new many

pub going-once : AlteredLaw → BreaksLaw → (way : Way) (stops : StopsState) (t now next : Timeline) (most done : ℕ) (v w : WorldState) (halts told : Bool) (before after : List Mark)
    (old new : KnownState) (many : Option Many) → IsGoing way stops t now most done before old many → done < most → replay does now.first now.changes ≡ Some v →
    replay does next.first next.changes ≡ Some w → HasMoved way now next None → AreMarks stops.watched after w → halts ≡ is_halt_done way v → new.waits ≡ old.waits →
    new.last ≡ old.last → (old.waits ≡ true → LooksOn way now old new told) → OneMore way stops t next most done halts told before after new many w
going-once altered breaks way stops t now next most done v w halts told before after old new many g below here there has marks halted waits last looks =
    let more = one_more altered way stops t now next done v w halts told before after old new g.moved here there has g.marked marks halted g.knows waits last looks in
    let first = ap (λ (s : Timeline). s.first) has.0 ∙ moved_once-first way now ∙ g.first in
    let none = none_before-next way stops t now most done g.going below g.moved has.1 g.before in
    let state = world_of-is now now v refl here in
    let later = world_of-is next next w refl there in
    record {
      moved = more.0;
      last = more.1;
      going = λ on. record {
        within = omega (arith, below);
        first = first;
        moved = more.0;
        going = more.1 ∙ on;
        before = none;
        marked = more.2;
        knows = more.3 on;
        allows =
            allows-some way stops before after (world_of now).breaks (world_of next).breaks told w many marks (AreMarks-length stops.watched before (world_of now) g.marked)
            (met_none halts (first_met told 0 stops.watched before w) (end_there stops w) on)
            (λ is. ap (λ (s : WorldState). s.breaks) later ∙ breaks-moved breaks way v w (has.2 v w here there) is ∙ sym (ap (λ (s : WorldState). s.breaks) state))
            g.allows;
      };
    }

-- A change done again and again leaves a sound journal with the same first state, and so does one taken back as it can't be noted.
use Rattle.std.proofs.Common.{◌∙◌, ap, subst, arith, [], take, is_some, refl}
use Rattle.undo_core.specs.Prelude.{IsPart, goes_unless, items_of, History, put_back}
use Rattle.undo_core.proofs.Repeating.{repeats-undone, repeats-first, done_none}
use Rattle.undo_core.proofs.Holding.{hold_fault, hold_memory, hold_all, hold_going, same-state}
use Rattle.undo_core.proofs.Many.{stored_times, replay_same, stored_same, view_same, dropped, unmade}
use Rattle.undo_core.proofs.Stored.{stored_replay, stored_few}
use Rattle.undo_core.proofs.journal.Journal.go_many.Goals.{in-Err+in-Fault-1, in-Err+in-Memory-1, in-Ok-1}
use Rattle.undo_core.proofs.journal.Journal.go_many.Goals as goal

pub returns-then-many-eq0-clause-fault : goal.returns-then-many-eq0-clause-fault
returns-then-many-eq0-clause-fault g c =
    let did = c.apply_until-many.ensures.done in
    let none = done_none g.S.Undo.is_real g.S.Undo.gives g.S.Undo.keeps (goes_unless (g.S.Undo.stops c.args.stop.now) g.S.Undo.goes) c.args.change c.apply_until-many.result.0 c.self.inside.state c.apply_until-many.new.self
    c.self.inside.kept.items c.apply_until-many.new.kept.items did.0 c.if-many-eq0.true did.2 did.1 in
    let came = replay_same g.S.Undo.gives g.S.Undo.keeps g.S.Undo.put g.S.Old.Pack.is_last none.0 none.1 (take c.self.inside.done (items_of 0 c.self.inside.changes.items)) (stored_replay c.self.invariant) in
    hold_fault g.S.Undo.gives _ c.apply_until-many.new.self _ came c.args.change c.apply_until-many.result.1 c.apply_until-many.ensures.fault

pub returns-then-many-eq0-clause-last : goal.returns-then-many-eq0-clause-last
returns-then-many-eq0-clause-last g c =
    let did = c.apply_until-many.ensures.done in
    let none = done_none g.S.Undo.is_real g.S.Undo.gives g.S.Undo.keeps (goes_unless (g.S.Undo.stops c.args.stop.now) g.S.Undo.goes) c.args.change c.apply_until-many.result.0 c.self.inside.state c.apply_until-many.new.self
    c.self.inside.kept.items c.apply_until-many.new.kept.items did.0 c.if-many-eq0.true did.2 did.1 in
    let came = replay_same g.S.Undo.gives g.S.Undo.keeps g.S.Undo.put g.S.Old.Pack.is_last none.0 none.1 (take c.self.inside.done (items_of 0 c.self.inside.changes.items)) (stored_replay c.self.invariant) in
    hold_memory g.S.Undo.gives _ c.apply_until-many.new.self _ came c.args.change c.apply_until-many.result.1 c.apply_until-many.ensures.last

pub add_many-requires-clause-few : goal.add_many-requires-clause-few
add_many-requires-clause-few g c =
    omega (arith, c.len-from.ensures.few, c.len-from.ensures.count, stored_few c.self.invariant, c.apply_until-many.ensures.within, c.requires.few)

pub overflow_add-self : goal.overflow_add-self
overflow_add-self g c =
    omega (arith, c.len-from.ensures.few, c.len-from.ensures.count, stored_few c.self.invariant, c.apply_until-many.ensures.within, c.requires.few)

pub invariant_of-self-in-Ok : goal.invariant_of-self-in-Ok
invariant_of-self-in-Ok g c =
    let did = c.apply_until-many.ensures.done in
    (stored_times g.S.Undo.is_real g.S.Undo.gives g.S.Undo.keeps g.S.Undo.put g.S.Old.Pack.is_last (goes_unless (g.S.Undo.stops c.args.stop.now) g.S.Undo.goes) c.args.change
    (λ s t. g.met.S.Undo.undoes s t c.args.change)
    (λ s t real given. subst (λ b. IsPart g.S.Old.Pack.is_last b (g.S.Undo.keeps s c.args.change)) c.requires.ends (g.met.S.Undo.parts s t c.args.change real given))
    c.apply_until-many.result.0 c.self.inside.state c.apply_until-many.new.self c.self.inside.kept.items c.apply_until-many.new.kept.items did.0
    c.self.inside.changes.items c.add_many.new.changes.items c.self.inside.places.items c.self.inside.done _ c.if-many-eq0.false c.self.invariant did.2 did.1
    c.in-Ok.ensures.rising c.in-Ok.ensures.items refl).0

pub returns-in-Ok-clause-first : goal.returns-in-Ok-clause-first
returns-in-Ok-clause-first g c =
    let did = c.apply_until-many.ensures.done in
    rw (← c.self.view_is) (stored_times g.S.Undo.is_real g.S.Undo.gives g.S.Undo.keeps g.S.Undo.put g.S.Old.Pack.is_last (goes_unless (g.S.Undo.stops c.args.stop.now) g.S.Undo.goes) c.args.change
    (λ s t. g.met.S.Undo.undoes s t c.args.change)
    (λ s t real given. subst (λ b. IsPart g.S.Old.Pack.is_last b (g.S.Undo.keeps s c.args.change)) c.requires.ends (g.met.S.Undo.parts s t c.args.change real given))
    c.apply_until-many.result.0 c.self.inside.state c.apply_until-many.new.self c.self.inside.kept.items c.apply_until-many.new.kept.items did.0
    c.self.inside.changes.items c.add_many.new.changes.items c.self.inside.places.items c.self.inside.done _ c.if-many-eq0.false c.self.invariant did.2 did.1
    c.in-Ok.ensures.rising c.in-Ok.ensures.items refl).1

pub returns-in-Ok-clause-did : goal.returns-in-Ok-clause-did
returns-in-Ok-clause-did g c =
    let did = c.apply_until-many.ensures.done in
    rw (← c.self.view_is) (λ s came.
    let same = same-state g.S.Undo.gives _ c.self.inside.state _ (stored_replay c.self.invariant) s came in
    (c.apply_until-many.new.self, did.0, rw (← same) did.2, stored_replay (invariant_of-self-in-Ok g c)))

pub returns-in-Ok-clause-all : goal.returns-in-Ok-clause-all
returns-in-Ok-clause-all g c =
    hold_all g.S.Undo.gives _ c.apply_until-many.new.self _ (stored_replay (invariant_of-self-in-Ok g c)) (goes_unless (g.S.Undo.stops c.args.stop.now) g.S.Undo.goes) c.args.change c.apply_until-many.result.0
    c.args.most c.apply_until-many.result.1 c.apply_until-many.ensures.all

pub returns-in-Ok-clause-going : goal.returns-in-Ok-clause-going
returns-in-Ok-clause-going g c =
    hold_going g.S.Undo.gives _ c.apply_until-many.new.self _ (stored_replay (invariant_of-self-in-Ok g c)) (goes_unless (g.S.Undo.stops c.args.stop.now) g.S.Undo.goes) c.args.change c.apply_until-many.result.0
    c.apply_until-many.result.1 c.apply_until-many.ensures.going

pub returns-in-Ok-clause-fault : goal.returns-in-Ok-clause-fault
returns-in-Ok-clause-fault g c =
    hold_fault g.S.Undo.gives _ c.apply_until-many.new.self _ (stored_replay (invariant_of-self-in-Ok g c)) c.args.change
    c.apply_until-many.result.1 c.apply_until-many.ensures.fault

pub returns-in-Ok-clause-last : goal.returns-in-Ok-clause-last
returns-in-Ok-clause-last g c =
    hold_memory g.S.Undo.gives _ c.apply_until-many.new.self _ (stored_replay (invariant_of-self-in-Ok g c)) c.args.change
    c.apply_until-many.result.1 c.apply_until-many.ensures.last

pub revert-requires-clause-fits : goal.revert-requires-clause-fits
revert-requires-clause-fits g c =
    let did = c.apply_until-many.ensures.done in
    let undone = repeats-undone g.S.Undo.is_real g.S.Undo.gives g.S.Undo.keeps (goes_unless (g.S.Undo.stops c.args.stop.now) g.S.Undo.goes) c.args.change g.S.Undo.put (λ s t. g.met.S.Undo.undoes s t c.args.change)
    c.apply_until-many.result.0 c.self.inside.state c.apply_until-many.new.self did.0 did.2 in
    ap is_some (ap (λ l. put_back g.S.Undo.put l c.apply_until-many.new.self)
    (dropped c.self.inside.kept.items did.0 c.apply_until-many.new.kept.items c.len-from.result c.len-end.result did.1 c.len-from.ensures.count c.len-end.ensures.count) ∙ undone)

pub invariant_of-self-in-Err : goal.invariant_of-self-in-Err
invariant_of-self-in-Err g c =
    let same = unmade g.S.Undo.is_real g.S.Undo.gives g.S.Undo.keeps g.S.Undo.put (goes_unless (g.S.Undo.stops c.args.stop.now) g.S.Undo.goes) c.args.change (λ s t. g.met.S.Undo.undoes s t c.args.change)
    c.apply_until-many.result.0 c.self.inside.state c.apply_until-many.new.self c.revert.new.state c.self.inside.kept.items c.apply_until-many.new.kept.items
    c.revert.new.kept.items c.len-from.result c.len-end.result c.apply_until-many.ensures.done c.len-from.ensures.count c.len-end.ensures.count
    c.revert.ensures.back c.revert.ensures.cut in
    stored_same g.S.Undo.gives g.S.Undo.keeps g.S.Undo.put g.S.Old.Pack.is_last same.0 same.1 c.in-Err.ensures.same c.self.invariant

pub invariant_of-self-in-Err-2 : goal.invariant_of-self-in-Err-2
invariant_of-self-in-Err-2 g c =
    let same = unmade g.S.Undo.is_real g.S.Undo.gives g.S.Undo.keeps g.S.Undo.put (goes_unless (g.S.Undo.stops c.args.stop.now) g.S.Undo.goes) c.args.change (λ s t. g.met.S.Undo.undoes s t c.args.change)
    c.apply_until-many.result.0 c.self.inside.state c.apply_until-many.new.self c.revert.new.state c.self.inside.kept.items c.apply_until-many.new.kept.items
    c.revert.new.kept.items c.len-from.result c.len-end.result c.apply_until-many.ensures.done c.len-from.ensures.count c.len-end.ensures.count
    c.revert.ensures.back c.revert.ensures.cut in
    stored_same g.S.Undo.gives g.S.Undo.keeps g.S.Undo.put g.S.Old.Pack.is_last same.0 same.1 c.in-Err.ensures.same c.self.invariant

pub invariant_of-self-in-Err-3 : goal.invariant_of-self-in-Err-3
invariant_of-self-in-Err-3 g c =
    let same = unmade g.S.Undo.is_real g.S.Undo.gives g.S.Undo.keeps g.S.Undo.put (goes_unless (g.S.Undo.stops c.args.stop.now) g.S.Undo.goes) c.args.change (λ s t. g.met.S.Undo.undoes s t c.args.change)
    c.apply_until-many.result.0 c.self.inside.state c.apply_until-many.new.self c.revert.new.state c.self.inside.kept.items c.apply_until-many.new.kept.items
    c.revert.new.kept.items c.len-from.result c.len-end.result c.apply_until-many.ensures.done c.len-from.ensures.count c.len-end.ensures.count
    c.revert.ensures.back c.revert.ensures.cut in
    stored_same g.S.Undo.gives g.S.Undo.keeps g.S.Undo.put g.S.Old.Pack.is_last same.0 same.1 c.in-Err.ensures.same c.self.invariant

pub returns-in-Err-clause-none : goal.returns-in-Err-clause-none
returns-in-Err-clause-none g c _ =
    let same = unmade g.S.Undo.is_real g.S.Undo.gives g.S.Undo.keeps g.S.Undo.put (goes_unless (g.S.Undo.stops c.args.stop.now) g.S.Undo.goes) c.args.change (λ s t. g.met.S.Undo.undoes s t c.args.change)
    c.apply_until-many.result.0 c.self.inside.state c.apply_until-many.new.self c.revert.new.state c.self.inside.kept.items c.apply_until-many.new.kept.items
    c.revert.new.kept.items c.len-from.result c.len-end.result c.apply_until-many.ensures.done c.len-from.ensures.count c.len-end.ensures.count
    c.revert.ensures.back c.revert.ensures.cut in
    let whole = view_same g.S.Undo.gives g.S.Undo.keeps g.S.Undo.put g.S.Old.Pack.is_last same.0 same.1 c.self.inside.changes.items c.add_many.new.changes.items c.self.inside.done c.args.self.now c.in-Err.ensures.same c.self.view_is in
    elim c.match-answer.branch [ in-Err+in-Fault-1 w ↦ w.self-is ∙ whole | in-Err+in-Memory-1 w ↦ w.self-is ∙ whole | in-Ok-1 w ↦ w.self-is ∙ whole ]

pub returns-in-Err-clause-first : goal.returns-in-Err-clause-first
returns-in-Err-clause-first g c = ap (λ (h : History g.row.S.Denot g.row.S-Change.Denot). h.first) (returns-in-Err-clause-none g c refl)

pub returns-in-Err-clause-did : goal.returns-in-Err-clause-did
returns-in-Err-clause-did g c = rw (returns-in-Err-clause-none g c refl) (λ s came. (s, [], (refl, refl), came))

pub returns-in-Err-clause-last : goal.returns-in-Err-clause-last
returns-in-Err-clause-last g c =
    let did = c.apply_until-many.ensures.done in
    rw (returns-in-Err-clause-none g c refl) (rw (← c.self.view_is) (λ s came.
    let same = same-state g.S.Undo.gives _ c.self.inside.state _ (stored_replay c.self.invariant) s came in
    rw (← same) (repeats-first g.S.Undo.is_real g.S.Undo.gives g.S.Undo.keeps (goes_unless (g.S.Undo.stops c.args.stop.now) g.S.Undo.goes) c.args.change c.apply_until-many.result.0 c.self.inside.state c.apply_until-many.new.self did.0 (omega (arith, c.if-many-eq0.false)) did.2)))

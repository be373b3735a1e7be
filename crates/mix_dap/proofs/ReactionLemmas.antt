-- A request is answered, or refused, and then goes on.
use Rattle.std.proofs.Common.{◌≡◌, inr, Bool, true, false, ℕ, List, [], ◌∷◌, ◌++◌, Option, None, Some, Result, Ok, Err, refl, sym, ap, subst, ◌∙◌}
use Rattle.std.specs.Prelude.{◌==◌, IfOk, OnErr, OnOk, codes, if◌then◌else◌}
use Rattle.serde_json.specs.Data.{Data}
use Rattle.mix_word.specs.Word.{WordValue}
use Rattle.mix_refused.specs.declared.refused.Refused.{Refused}
use Rattle.mix_session.specs.Prelude.{Effect, after, SessionState, Timeline, world_of}
use Rattle.mix_session.specs.Over.{steps_over}
use Rattle.mix_session.specs.declared.answer.Answer.{Answer}
use Rattle.mix_session.specs.declared.reply.End.{End}
use Rattle.rpc_message.specs.Message.{Adds, reply_message}
use Rattle.rpc_message.specs.Request.{text_of}
use Rattle.rpc_message.specs.declared.outbox.Outbox.{Outbox}
use Rattle.rpc_message.specs.declared.request.Request.{Request}
use Rattle.dap_asked.specs.Deed.{deed_of, effect_of_deed, is_line, line_deed}
use Rattle.dap_asked.specs.Fault.{Refuses}
use Rattle.dap_asked.specs.declared.deed.Deed.{Deed}
use Rattle.dap_asked.specs.declared.fault.Fault.{Fault}
use Rattle.dap_asked.specs.declared.kind.Act.{Act}
use Rattle.dap_asked.specs.declared.kind.Kind.{Kind}
use Rattle.mix_dap.specs.Prelude.{is_said, line_meant, end_told, all_told, outputs, fault_at, out_of_memory}
use Rattle.mix_dap.specs.Events.{AddsAnswer, AddsEvents, Event, invalidated, stopped}
use Rattle.mix_dap.specs.Leaves.{refusal_in}
use Rattle.dap_points.specs.Points.{PointsState, with_kind}
use Rattle.mix_dap.specs.Reaction.{Beside, Reaction, acted, asked_done, beside, console, deed_done, line_done, reaction, reaction_to, refuses, replied_unless, said_or_done, stepped_over, still, unless, written}
use Rattle.mix_dap.specs.Reacts.{Answered, GoesOn, IsSame, Leaving, ReactsAs, Runs, RunsPartly, flow_after}
use Rattle.mix_dap.specs.Replies.{AddsReply, Denies, Refusal, Serves, answer_message}
use Rattle.mix_dap.specs.Runs.{RunBroken, RunDone, most, why_of_run}
use Rattle.dap_points.specs.Written.{Written, write_asked}
use Rattle.mix_dap.specs.declared.adapter.Adapter.{Adapter}
use Rattle.mix_dap.specs.declared.adapter.Flow.{Flow}
use Rattle.mix_dap.specs.declared.adapter.Flow.TheVariants as flow
use Rattle.mix_dap.specs.declared.adapter.Then.{Then}
use Rattle.mix_dap.specs.declared.adapter.Then.TheVariants as then
use Rattle.mix_dap.specs.declared.adapter.Way.{Way}
use Rattle.mix_dap.specs.declared.adapter.Way.TheVariants as way
use Rattle.dap_asked.specs.declared.deed.Deed.TheVariants as deed
use Rattle.dap_asked.specs.declared.kind.Act.TheVariants as act
use Rattle.dap_asked.specs.declared.kind.Kind.TheVariants as kind
use Rattle.mix_dap.specs.declared.launch.Opening.{Opening}
use Rattle.mix_dap.specs.declared.launch.Opening.TheVariants as opening
use Rattle.mix_dap.proofs.EventLemmas.{refusal-alone, reply-alone, reply-then}

-- ---- a write of the memory

pub write-answered : (asked : Result (List (ℕ × WordValue) × ℕ) Fault) (a : Adapter) (new : Timeline) (body : Data) (r : Request) (old between out : Outbox)
    → Written asked a.session.timeline new → Adds old between (λ seq. reply_message seq r body) → AddsEvents (invalidated a.client) between out
    → let x = written asked a in Serves x.outcome × (new ≡ x.timeline) × (a.points ≡ with_kind x.sets a.points x.points) × (a.fault ≡ x.fault) × (a.printed ≡ x.printed)
    × (then.Wait ≡ x.later) × AddsReply r x.events old out
write-answered (Ok asked) a new body r old between out done tells later =
    (tt, done, refl, refl, refl, refl, reply-then r (invalidated a.client) old between out (reply-alone r body old between tells) later)
write-answered (Err wrong) a new body r old between out done tells later = absurd done

-- ---- refusals: nothing but that is told

-- nothing is altered, told or run
abbrev IsStill : Reaction → Adapter → Type 0
IsStill x a = x ≡ record (still a) { outcome = x.outcome }

written-still : (asked : Result (List (ℕ × WordValue) × ℕ) Fault) (a : Adapter) (why : Fault) → Denies (written asked a).outcome why → IsStill (written asked a) a
written-still (Ok asked) a why is = absurd is
written-still (Err wrong) a why is = refl

acted-done : (what : Act) (answer : Answer) (b : Beside) (t : Timeline) (why : Fault) → Denies (acted what answer b t).outcome why → ⊥
acted-done act.Step answer b t why is = is
acted-done act.StepBack answer b t why is = is
acted-done act.Continue answer b t why is = is
acted-done act.StepOut answer b t why is = is
acted-done act.ReverseContinue answer b t why is = is
acted-done act.Begin answer b t why is = is
acted-done act.Goto answer b t why is = is
acted-done act.SetVariable answer b t why is = is
acted-done act.SetExpression answer b t why is = is
acted-done act.Evaluate answer b t why is = is

unless-still : (refusal : Option Fault) (what : Act) (effect : Effect) (a : Adapter) (why : Fault) → Denies (unless refusal what effect a).outcome why
    → IsStill (unless refusal what effect a) a
unless-still None what effect a why is = absurd (acted-done what effect.answer (beside a) (after effect) why is)
unless-still (Some wrong) what effect a why is = refl

asked-still : (what : Act) (asked : Result Deed Fault) (a : Adapter) (why : Fault) → Denies (asked_done what asked a).outcome why
    → IsStill (asked_done what asked a) a
asked-still what (Ok deed) a why is =
    unless-still (refusal_in (effect_of_deed deed a.session.timeline)) what (effect_of_deed deed a.session.timeline) a why is
asked-still what (Err wrong) a why is = refl

-- a step over
over-by : (one : Bool) (steps : ℕ) (a : Adapter) (why : Fault)
    → Denies (if one then deed_done act.Step deed.Step a else record (still a) { fault = None; later = then.Run (way.Over steps) }).outcome why
    → IsStill (if one then deed_done act.Step deed.Step a else record (still a) { fault = None; later = then.Run (way.Over steps) }) a
over-by true steps a why is = asked-still act.Step (Ok deed.Step) a why is
over-by false steps a why is = absurd is

over-still : (steps : ℕ) (a : Adapter) (why : Fault) → Denies (stepped_over steps a).outcome why → IsStill (stepped_over steps a) a
over-still steps a why is = over-by (steps == 1) steps a why is

-- a line of the console
replied-still : (refusal : Option Fault) (effect : Effect) (a : Adapter) (why : Fault) → Denies (replied_unless refusal effect a).outcome why
    → IsStill (replied_unless refusal effect a) a
replied-still None effect a why is = absurd is
replied-still (Some wrong) effect a why is = refl

line-still : (asked : Result Deed Fault) (a : Adapter) (why : Fault) → Denies (line_done asked a).outcome why → IsStill (line_done asked a) a
line-still (Ok deed) a why is =
    replied-still (refusal_in (effect_of_deed deed a.session.timeline)) (effect_of_deed deed a.session.timeline) a why is
line-still (Err wrong) a why is = refl

said-still : (said : Bool) (line : List ℕ) (a : Adapter) (why : Fault) → Denies (said_or_done said line a).outcome why
    → IsStill (said_or_done said line a) a
said-still true line a why is = refl
said-still false line a why is = line-still (line_deed a.session line) a why is

console-still : (typed : Option (List ℕ)) (a : Adapter) (why : Fault) → Denies (console typed a).outcome why → IsStill (console typed a) a
console-still None a why is = refl
console-still (Some typed) a why is = said-still (is_said a.session typed) (line_meant a.session typed) a why is

acts-still : (is_typed : Bool) (typed : Option (List ℕ)) (what : Act) (asked : Result Deed Fault) (a : Adapter) (why : Fault)
    → Denies (if is_typed then console typed a else asked_done what asked a).outcome why
    → IsStill (if is_typed then console typed a else asked_done what asked a) a
acts-still true typed what asked a why is = console-still typed a why is
acts-still false typed what asked a why is = asked-still what asked a why is

refused-still : (k : Kind) (r : Request) (a : Adapter) (why : Fault) → Denies (reaction k r a).outcome why → IsStill (reaction k r a) a
refused-still kind.Initialize r a why is = refl
refused-still (kind.Look look) r a why is = refl
refused-still (kind.Given given) r a why is = refl
refused-still (kind.Points target) r a why is = absurd is
refused-still kind.Pause r a why is = absurd is
refused-still kind.Terminate r a why is = absurd is
refused-still kind.Restart r a why is = absurd is
refused-still kind.Cancel r a why is = refl
refused-still kind.Launch r a why is = refl
refused-still kind.Disconnect r a why is = absurd is
refused-still kind.Write r a why is = written-still (write_asked a.session r) a why is
refused-still kind.StepOver r a why is = over-still (steps_over (world_of a.session.timeline) most) a why is
refused-still (kind.Act what) r a why is = acts-still (is_line what r) (text_of r (codes "expression")) what (deed_of what r a.session) a why is

-- a refusal is told
reacts-refuses : (x : Reaction) (r : Request) (a b : Adapter) (why : Fault) (how : Flow) (old mid new : Outbox) → IsStill x a → Denies x.outcome why
    → IsSame a b → mid ≡ old → how ≡ flow.Refused why
    → Refuses r why mid new → ReactsAs x r how b old new
reacts-refuses x r a b why how old mid new is fits same still_old flows tells =
    let alone = refusal-alone r why mid new tells in
    let body : Result Data Refusal = Err (record { why = why; text = alone.text; place = alone.place }) in
    subst (λ y. ReactsAs y r how b old new) (sym is) (record {
      body = body;
      fits = fits;
      flow = flows;
      mid = b;
      between = new;
      timeline = same.0;
      points = same.1;
      fault = same.2;
      printed = same.3;
      told = subst (λ o. AddsAnswer (answer_message r body) [] o new) still_old alone.adds;
      goes = (refl, refl);
    })

pub reacts-misread : (asked : Result Kind Fault) (why : Fault) (r : Request) (a : Adapter) (how : Flow) (old new : Outbox) → asked ≡ Err why → how ≡ flow.Refused why
    → Refuses r why old new → ReactsAs (reaction_to asked r a) r how a old new
reacts-misread asked why r a how old new is flows tells = subst (λ (k : Result Kind Fault). ReactsAs (reaction_to k r a) r how a old new) (sym is)
    (reacts-refuses (refuses a why) r a a why how old old new refl refl (refl, refl, refl, refl) refl flows tells)

pub reacts-refused : (k : Kind) (r : Request) (a b : Adapter) (why : Fault) (how : Flow) (old mid new : Outbox)
    → Denies (reaction k r a).outcome why × IsSame a b × (mid ≡ old) → how ≡ flow.Refused why
    → Refuses r why mid new → ReactsAs (reaction k r a) r how b old new
reacts-refused k r a b why how old mid new is flows tells =
    reacts-refuses (reaction k r a) r a b why how old mid new (refused-still k r a why is.0) is.0 is.1 is.2 flows tells

-- ---- an answer, and what comes then

pub reacts-done : (x : Reaction) (r : Request) (mid b : Adapter) (later : Then) (how : Flow) (old between new : Outbox) → Answered x r mid later old between
    → how ≡ flow_after later → GoesOn later mid b between new → ReactsAs x r how b old new
reacts-done x r mid b later how old between new is flows goes = record {
  body = Ok is.6.body;
  fits = is.0;
  flow = flows ∙ ap flow_after is.5;
  mid = mid;
  between = between;
  timeline = is.1;
  points = is.2;
  fault = is.3;
  printed = is.4;
  told = is.6.adds;
  goes = subst (λ l. GoesOn l mid b between new) is.5 goes;
}

pub on-done : {E : Type 0} (result : Result Flow E) (x : Reaction) (r : Request) (mid b : Adapter) (later : Then) (old between new : Outbox)
    → Answered x r mid later old between → IfOk result (λ how. how ≡ flow_after later) → OnOk result (GoesOn later mid b between new)
    → IfOk result (λ how. ReactsAs x r how b old new)
on-done (Ok how) x r mid b later old between new is flows goes = reacts-done x r mid b later how old between new is flows goes
on-done (Err why) x r mid b later old between new is flows goes = tt

pub on-refused : {E : Type 0} (result : Result Flow E) (k : Kind) (r : Request) (a b : Adapter) (why : Fault) (old mid new : Outbox)
    → Denies (reaction k r a).outcome why × IsSame a b × (mid ≡ old) → IfOk result (λ how. how ≡ flow.Refused why)
    → OnOk result (Refuses r why mid new)
    → IfOk result (λ how. ReactsAs (reaction k r a) r how b old new)
on-refused (Ok how) k r a b why old mid new is flows tells = reacts-refused k r a b why how old mid new is flows tells
on-refused (Err wrong) k r a b why old mid new is flows tells = tt

pub on-misread : {E : Type 0} (result : Result Flow E) (asked : Result Kind Fault) (why : Fault) (r : Request) (a : Adapter) (old new : Outbox) → asked ≡ Err why
    → IfOk result (λ how. how ≡ flow.Refused why) → OnOk result (Refuses r why old new)
    → IfOk result (λ how. ReactsAs (reaction_to asked r a) r how a old new)
on-misread (Ok how) asked why r a old new is flows tells = reacts-misread asked why r a how old new is flows tells
on-misread (Err wrong) asked why r a old new is flows tells = tt

-- ---- out of memory

pub on-broken : {E : Type 0} (result : Result Flow E) (k : Kind) (r : Request) (a mid : Adapter) (later : Then) (old between : Outbox) (new : Timeline)
    → Answered (reaction k r a) r mid later old between → OnErr result (RunsPartly later mid.points mid.session.timeline new) → OnErr result (Leaving k r a new)
on-broken (Ok how) k r a mid later old between new is partly = tt
on-broken (Err why) k r a mid later old between new is partly =
    let x = reaction k r a in
    inr (inr (mid.points, is.2, subst (λ l. RunsPartly l mid.points x.timeline new) is.5 (subst (λ t. RunsPartly later mid.points t new) is.1 partly)))

-- ---- a run, and what it tells

pub runs-done : (way : Way) (a b : Adapter) (end : End) (points : PointsState) (s : SessionState) (old new : Outbox)
    → RunDone way a.points a.session.timeline end points s.timeline → b.session ≡ s → b.points ≡ points → b.fault ≡ fault_at end
    → b.printed ≡ all_told (world_of s.timeline)
    → AddsEvents (outputs a.printed (world_of s.timeline) ++ end_told a.opening (Some end) (why_of_run way points s.timeline end)) old new → Runs way a b old new
runs-done way a b end points s old new done same_session same_points faults printed tells = record {
  ended = Some end;
  ran = rw (same_session, same_points) done;
  fault = faults;
  printed = rw same_session printed;
  told = rw (same_session, same_points) tells;
}

broken-told : (opening : Opening) (rows : List Event) (old new : Outbox) → AddsEvents (rows ++ stopped out_of_memory ∷ []) old new
    → AddsEvents (rows ++ end_told opening None out_of_memory) old new
broken-told opening.Stops rows old new is = is
broken-told opening.Runs rows old new is = is
broken-told opening.Free rows old new is = is

pub runs-broken : (way : Way) (a b : Adapter) (points : PointsState) (s : SessionState) (old new : Outbox)
    → RunBroken way a.points a.session.timeline points s.timeline → b.session ≡ s → b.points ≡ points → b.fault ≡ None
    → b.printed ≡ all_told (world_of s.timeline)
    → AddsEvents (outputs a.printed (world_of s.timeline) ++ stopped out_of_memory ∷ []) old new → Runs way a b old new
runs-broken way a b points s old new broken same_session same_points faults printed tells = record {
  ended = None;
  ran = rw (same_session, same_points) broken;
  fault = faults;
  printed = rw same_session printed;
  told = rw same_session (broken-told a.opening (outputs a.printed (world_of s.timeline)) old new tells);
}

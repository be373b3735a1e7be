-- Events, and an answer before them, one after the other.
use Rattle.std.proofs.Common.{◌≡◌, ◌<◌, ◌≤◌, ℕ, zero, suc, ◌+◌, List, [], ◌∷◌, ◌++◌, None, Ok, Err, drop, length, slice_index_or, refl, ap, sym, subst, ◌∙◌, arith}
use Rattle.std.proofs.lemmas.List.{append_assoc, append-nil}
use Rattle.std.specs.Prelude.{map, codes}
use Rattle.serde_json.specs.Data.{Data}
use Rattle.mix_machine.specs.Prelude.{WorldState, RowState}
use Rattle.rpc_message.specs.declared.outbox.Outbox.{Outbox}
use Rattle.rpc_message.specs.declared.request.Request.{Request}
use Rattle.rpc_message.specs.Message.{next_seq, waits, event_message, output_message, reply_message, Adds}
use Rattle.mix_dap.specs.Events.{Event, AddsAnswer, AddsEvents, Sends, all_areas, initialized, event_messages, last_seq, out_of_date}
use Rattle.dap_asked.specs.declared.fault.Fault.{Fault}
use Rattle.dap_asked.specs.Fault.{Refuses}
use Rattle.mix_dap.specs.Prelude.{output, outputs, row_output, launched_of, Texts}
use Rattle.mix_dap.specs.Answer.{LaunchTells, TellsReport, report_told}
use Rattle.mix_dap.specs.Replies.{AddsEither, AddsRefusal, AddsReply, answer_message}
use Rattle.mix_session.specs.Session.{SessionState}
use Rattle.mix_dap.specs.declared.printed.Printed.{Printed}

messages-append : (seq : ℕ) (xs ys : List Event) → event_messages seq (xs ++ ys) ≡ event_messages seq xs ++ event_messages (last_seq seq xs) ys
messages-append seq [] ys = refl
messages-append seq (x ∷ xs) ys = ap (λ l. event_message (next_seq seq) x.name x.body ∷ l) (messages-append (next_seq seq) xs ys)

seq-append : (seq : ℕ) (xs ys : List Event) → last_seq seq (xs ++ ys) ≡ last_seq (last_seq seq xs) ys
seq-append seq [] ys = refl
seq-append seq (x ∷ xs) ys = seq-append (next_seq seq) xs ys

-- none
pub adds-none : (out : Outbox) → AddsEvents [] out out
adds-none out = record { told = sym (append-nil (waits out)); seq = refl }

-- one
pub adds-one : (name : List ℕ) (body shown : Data) (old new : Outbox) → body ≡ shown → Adds old new (λ seq. event_message seq name body)
    → AddsEvents (record { name = name; body = shown } ∷ []) old new
adds-one name body shown old new is adds = record { told = rw (sym is) adds.0; seq = adds.1 }

pub adds-output : (category text shown : List ℕ) (old new : Outbox) → text ≡ shown → Adds old new (λ seq. output_message seq category text)
    → AddsEvents (output category shown ∷ []) old new
adds-output category text shown old new is adds = record { told = rw (sym is) adds.0; seq = adds.1 }

-- that what is shown is out of date
pub date-told : (body : Data) (old new : Outbox) → body ≡ all_areas → Adds old new (λ seq. event_message seq (codes "invalidated") body)
    → AddsEvents (out_of_date ∷ []) old new
date-told body old new is adds = adds-one (codes "invalidated") body all_areas old new is adds

-- some, and then others
pub adds-then : (xs ys : List Event) (old mid new : Outbox) → AddsEvents xs old mid → AddsEvents ys mid new → AddsEvents (xs ++ ys) old new
adds-then xs ys old mid new before after = record {
  told = after.told ∙ ap (λ l. l ++ event_messages mid.seq ys) before.told ∙ append_assoc (waits old) (event_messages old.seq xs) (event_messages mid.seq ys)
      ∙ ap (λ n. waits old ++ (event_messages old.seq xs ++ event_messages n ys)) before.seq ∙ ap (λ l. waits old ++ l) (sym (messages-append old.seq xs ys));
  seq = after.seq ∙ ap (λ n. last_seq n ys) before.seq ∙ sym (seq-append old.seq xs ys);
}

-- the rows of a machine, and then others
pub rows-then : (printed : Printed) (w shown : WorldState) (ys : List Event) (old mid new : Outbox) → shown ≡ w → AddsEvents (outputs printed shown) old mid
    → AddsEvents ys mid new → AddsEvents (outputs printed w ++ ys) old new
rows-then printed w shown ys old mid new is before after = adds-then (outputs printed w) ys old mid new (rw (sym is) before) after

pub adds-then-four : (ws xs ys zs : List Event) (a b c d e : Outbox) → AddsEvents ws a b → AddsEvents xs b c → AddsEvents ys c d → AddsEvents zs d e
    → AddsEvents (ws ++ (xs ++ (ys ++ zs))) a e
adds-then-four ws xs ys zs a b c d e p q r s =
    adds-then ws (xs ++ (ys ++ zs)) a b e p (adds-then xs (ys ++ zs) b c e q (adds-then ys zs c d e r s))

-- and then events
pub answer-then : (message : ℕ → Data) (ys : List Event) (old mid new : Outbox) → AddsAnswer message [] old mid → AddsEvents ys mid new
    → AddsAnswer message ys old new
answer-then message ys old mid new before after = record {
  told = after.told ∙ ap (λ l. l ++ event_messages mid.seq ys) before.told ∙ append_assoc (waits old) (message (next_seq old.seq) ∷ []) (event_messages mid.seq ys)
      ∙ ap (λ n. waits old ++ message (next_seq old.seq) ∷ event_messages n ys) before.seq;
  seq = after.seq ∙ ap (λ n. last_seq n ys) before.seq;
}

-- a response alone
pub reply-alone : (r : Request) (body : Data) (old new : Outbox) → Adds old new (λ seq. reply_message seq r body) → AddsReply r [] old new
reply-alone r body old new adds = record { body = body; adds = record { told = adds.0; seq = adds.1 } }

-- and then events
pub reply-then : (r : Request) (ys : List Event) (old mid new : Outbox) → AddsReply r [] old mid → AddsEvents ys mid new → AddsReply r ys old new
reply-then r ys old mid new before after =
    record { body = before.body; adds = answer-then (answer_message r (Ok before.body)) ys old mid new before.adds after }

-- ---- rows

rows-next : (rows : List RowState) (at : ℕ) (row : RowState) → at < length rows → row ≡ slice_index_or rows at None
    → map row_output (drop at rows) ≡ row_output row ∷ map row_output (drop (at + 1) rows)
rows-next [] at row h e = absurd (omega arith)
rows-next (r ∷ rs) zero row h e = ap (λ x. row_output x ∷ map row_output rs) (sym e)
rows-next (r ∷ rs) (suc at) row h e =
    let next : suc at + 1 ≡ suc (at + 1) = omega arith in
    rw next (rows-next rs at row (omega arith) e)

rows-none : (rows : List RowState) (at : ℕ) → length rows ≤ at → map row_output (drop at rows) ≡ []
rows-none [] zero h = refl
rows-none [] (suc at) h = refl
rows-none (r ∷ rs) zero h = absurd (omega arith)
rows-none (r ∷ rs) (suc at) h = rows-none rs at (omega arith)

-- a row more was told
pub rows-more : (rows : List RowState) (at : ℕ) (row : RowState) (all : List Event) (old mid new : Outbox)
    → (done : List Event) × AddsEvents done old mid × (all ≡ done ++ map row_output (drop at rows)) → at < length rows → row ≡ slice_index_or rows at None
    → AddsEvents (row_output row ∷ []) mid new
    → (done : List Event) × AddsEvents done old new × (all ≡ done ++ map row_output (drop (at + 1) rows))
rows-more rows at row all old mid new so_far there is one = (
  so_far.0 ++ row_output row ∷ [],
  adds-then so_far.0 (row_output row ∷ []) old mid new so_far.1 one,
  so_far.2 ∙ ap (λ l. so_far.0 ++ l) (rows-next rows at row there is) ∙ sym (append_assoc so_far.0 (row_output row ∷ []) (map row_output (drop (at + 1) rows))),
)

-- all were told
pub rows-all : (rows : List RowState) (at : ℕ) (all : List Event) (old new : Outbox)
    → (done : List Event) × AddsEvents done old new × (all ≡ done ++ map row_output (drop at rows)) → length rows ≤ at → AddsEvents all old new
rows-all rows at all old new so_far none =
    let same : all ≡ so_far.0 = so_far.2 ∙ ap (λ l. so_far.0 ++ l) (rows-none rows at none) ∙ append-nil so_far.0 in
    subst (λ l. AddsEvents l old new) (sym same) so_far.1

-- ---- outboxes in which none waits

pub sends-all : (adds : Outbox → Outbox → Type 0) (old new : Outbox) → waits old ≡ [] → adds old new → Sends (waits new) old.seq new.seq adds
sends-all adds old new none is = record { old = old; new = new; none = none; all = refl; follow = refl; lead = refl; added = is }

-- ---- refusals

-- a refusal alone
pub refusal-alone : (r : Request) (why : Fault) (old new : Outbox) → Refuses r why old new → AddsRefusal r why [] old new
refusal-alone r why old new is = record { text = is.text; place = is.place; adds = record { told = is.adds.0; seq = is.adds.1 } }

-- what only looks
pub either-reply : (r : Request) (body : Data) (old new : Outbox) → Adds old new (λ seq. reply_message seq r body) → AddsEither r [] old new
either-reply r body old new adds = record { body = Ok body; adds = record { told = adds.0; seq = adds.1 } }

pub either-refused : (r : Request) (why : Fault) (old new : Outbox) → Refuses r why old new → AddsEither r [] old new
either-refused r why old new is =
    let alone = refusal-alone r why old new is in
    record { body = Err (record { why = why; text = alone.text; place = alone.place }); adds = alone.adds }

-- ---- a launch

pub report-some : (report : List ℕ) (old new : Outbox) → AddsEvents (report_told report) old new → TellsReport old new
report-some report old new is = record { report = report; told = is }

pub launch-refused : (r : Request) (texts : Texts) (why : Fault) (old mid new : Outbox) → launched_of texts ≡ Err why → Refuses r why old mid
    → TellsReport mid new → LaunchTells r texts old new
launch-refused r texts why old mid new is refused said =
    let alone = refusal-alone r why old mid refused in
    let told = answer-then (answer_message r (Err (record { why = why; text = alone.text; place = alone.place }))) (report_told said.report) old mid new alone.adds said.told in
    let all : AddsRefusal r why (report_told said.report) old new = record { text = alone.text; place = alone.place; adds = told } in
    record { report = said.report; told = rw is all }

pub launch-done : (r : Request) (texts : Texts) (session : SessionState) (body : Data) (old mid later new : Outbox) → launched_of texts ≡ Ok session
    → Adds old mid (λ seq. reply_message seq r body) → TellsReport mid later → AddsEvents (initialized ∷ []) later new → LaunchTells r texts old new
launch-done r texts session body old mid later new is adds said begins = record {
  report = said.report;
  told = rw is (reply-then r (report_told said.report ++ initialized ∷ []) old mid new (reply-alone r body old mid adds)
      (adds-then (report_told said.report) (initialized ∷ []) mid later new said.told begins));
}

pub ruleset sending = (sends-all)

pub ruleset events = (adds-none, adds-output, date-told, adds-then)

pub ruleset reporting = (report-some)

pub ruleset answering = (reply-alone, reply-then, refusal-alone, either-reply, either-refused, launch-refused)

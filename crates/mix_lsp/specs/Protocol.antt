-- What a message asks for, and how far a server is after it.
use Rattle.std.specs.Prelude.{ℕ, List, [], ◌∷◌, ◌++◌, codes, ◌||◌, Bool, true, false, is_some, Option, None, Some, option_and_then, option_to_list, if◌then◌else◌}
use Rattle.std.specs.Str.{bytes_eq}
use Rattle.serde_json.specs.Data.{Data, null}
use Rattle.serde_json.specs.Find.{as_str, get}
use Rattle.rpc_stream.specs.Asked.{Body, message_in}
use Rattle.mix_lsp.specs.declared.phase.Phase.{Phase}
use Rattle.mix_lsp.specs.declared.phase.Phase.TheVariants as phase
use Rattle.mix_lsp.specs.declared.phase.Step.{Step}
use Rattle.mix_lsp.specs.declared.phase.Step.TheVariants as step

-- ---- which messages are answered

abbrev pub message_of : Body → Option Data
message_of frame = option_and_then message_in frame

abbrev pub method_of : Data → Option (List ℕ)
method_of m = option_and_then as_str (get (codes "method") m)

abbrev pub id_of : Data → Option Data
id_of m = get (codes "id") m

-- whether it is the answer to a request
abbrev pub is_answer : Data → Bool
is_answer m = is_some (get (codes "result") m) || is_some (get (codes "error") m)

abbrev pub id_or_null : Option Data → Data
id_or_null None = null
id_or_null (Some id) = id

-- the id of the response that a message asks for: a request has one, what is no message gets null,
-- and a notification and an answer ask for none
abbrev pub id_asked_by : Option (List ℕ) → Option Data → Bool → Option Data
id_asked_by None id true = None
id_asked_by None id false = Some (id_or_null id)
id_asked_by (Some method) id answer = id

abbrev pub id_asked : Option Data → Option Data
id_asked None = Some null
id_asked (Some m) = id_asked_by (method_of m) (id_of m) (is_answer m)

abbrev pub ids_asked : List Body → List Data
ids_asked [] = []
ids_asked (frame ∷ frames) = option_to_list (id_asked (message_of frame)) ++ ids_asked frames

-- the id of a message that is sent: what is sent unasked has none
abbrev pub id_in : Option Data → Option Data
id_in told = option_and_then (get (codes "id")) told

abbrev pub ids_sent : List Data → List Data
ids_sent [] = []
ids_sent (message ∷ messages) = option_to_list (get (codes "id") message) ++ ids_sent messages

-- ---- how far a server is

abbrev pub step_named : List ℕ → Step
step_named method =
    if bytes_eq method (codes "initialize") then step.Initialize
    else (if bytes_eq method (codes "shutdown") then step.Shutdown
    else (if bytes_eq method (codes "exit") then step.Exit else step.Other))

-- after a request: `initialize` begins, and then `shutdown` ends the answers
abbrev pub phase_at : Phase → Step → Phase
phase_at phase.New step.Initialize = phase.Ready
phase_at phase.New step.Shutdown = phase.New
phase_at phase.New step.Exit = phase.New
phase_at phase.New step.Other = phase.New
phase_at phase.Ready step.Initialize = phase.Ready
phase_at phase.Ready step.Shutdown = phase.Closing
phase_at phase.Ready step.Exit = phase.Ready
phase_at phase.Ready step.Other = phase.Ready
phase_at phase.Closing s = phase.Closing

-- the status with which a notification ends the server: `exit` does, with 0 after `shutdown`
abbrev pub exit_status : Phase → ℕ
exit_status phase.New = 1
exit_status phase.Ready = 1
exit_status phase.Closing = 0

abbrev pub status_at : Phase → Step → Option ℕ
status_at p step.Initialize = None
status_at p step.Shutdown = None
status_at p step.Exit = Some (exit_status p)
status_at p step.Other = None

abbrev pub phase_by : Option (List ℕ) → Option Data → Phase → Phase
phase_by None id p = p
phase_by (Some method) None p = p
phase_by (Some method) (Some id) p = phase_at p (step_named method)

abbrev pub status_by : Option (List ℕ) → Option Data → Phase → Option ℕ
status_by None id p = None
status_by (Some method) None p = status_at p (step_named method)
status_by (Some method) (Some id) p = None

abbrev pub phase_after : Option Data → Phase → Phase
phase_after None p = p
phase_after (Some m) p = phase_by (method_of m) (id_of m) p

abbrev pub status_after : Option Data → Phase → Option ℕ
status_after None p = None
status_after (Some m) p = status_by (method_of m) (id_of m) p

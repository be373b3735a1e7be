-- A refusal is told.
use Rattle.std.proofs.Common.{◌≡◌, ℕ, List, sym}
use Rattle.serde_json.specs.Data.{Data}
use Rattle.rpc_message.specs.declared.outbox.Outbox.{Outbox}
use Rattle.rpc_message.specs.declared.request.Request.{Request}
use Rattle.rpc_message.specs.Message.{Adds, refusal_message}
use Rattle.dap_asked.specs.Fault.{Refuses, fault_number}
use Rattle.dap_asked.specs.declared.fault.Fault.{Fault}

pub refused : (r : Request) (why : Fault) (number : ℕ) (text : List ℕ) (place : Data) (old new : Outbox) → number ≡ fault_number why
    → Adds old new (λ seq. refusal_message seq r number text place) → Refuses r why old new
refused r why number text place old new is adds = record { text = text; place = place; adds = rw (sym is) adds }

pub ruleset refusing = (refused)

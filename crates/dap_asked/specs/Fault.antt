-- The number of each refusal, and the message that tells it.
use Rattle.std.specs.Prelude.{ℕ, ◌+◌, List}
use Rattle.serde_json.specs.Data.{Data}
use Rattle.mixal_asm.specs.Fault.{kind_number}
use Rattle.mix_machine.specs.units.deck.Fault.{deck_number}
use Rattle.mix_session.specs.Fault.{refusal_number}
use Rattle.rpc_message.specs.declared.outbox.Outbox.{Outbox}
use Rattle.rpc_message.specs.declared.request.Request.{Request}
use Rattle.rpc_message.specs.Message.{Adds, refusal_message}
use Rattle.dap_asked.specs.declared.fault.Fault.{Fault}
use Rattle.dap_asked.specs.declared.fault.Fault.TheVariants as fault

abbrev pub fault_number : Fault → ℕ
fault_number (fault.Source at) = 100 + kind_number at.kind
fault_number (fault.Session refusal) = 200 + refusal_number refusal
fault_number fault.NoSuchRequest = 301
fault_number fault.BadArgument = 302
fault_number fault.NotLaunched = 303
fault_number fault.Launched = 304
fault_number fault.NoSuchThing = 306
fault_number (fault.Deck at) = 400 + deck_number at.kind
fault_number (fault.Cards at) = 400 + deck_number at.kind
fault_number (fault.Typed at) = 400 + deck_number at.kind
fault_number fault.Unread = 502
fault_number fault.NotOpened = 504
fault_number fault.TooLong = 506

-- A request is refused for this reason, in some words, which say where it lies.
pub record Refuses (r : Request) (why : Fault) (old new : Outbox) : Type 0 where
  pub text : List ℕ
  pub place : Data
  pub adds : Adds old new (λ seq. refusal_message seq r (fault_number why) text place)

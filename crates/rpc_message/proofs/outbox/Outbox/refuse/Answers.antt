-- What is sent is the head and the body of the refusal.
use Rattle.std.proofs.Common.{false, OnOk, ap, ◌∙◌, subst}
use Rattle.std.specs.Prelude.{codes}
use Rattle.serde_json.specs.Data.{string, put}
use Rattle.serde_json.specs.View.{view}
use Rattle.rpc_message.specs.Fields.{members_in}
use Rattle.rpc_message.specs.Message.{refusal_body, numbered, Adds}
use Rattle.rpc_message.proofs.outbox.Outbox.refuse.Goals as goal

pub returns-clause-told : goal.returns-clause-told
returns-clause-told c =
    let head = c.in_ok-text.ensures ∙ ap (put (codes "message") (string c.args.text.now)) c.in_ok-head.ensures in
    let told = subst (λ b. OnOk c.send.result (Adds c.args.self.now c.send.new.self (λ seq. numbered seq (members_in c.text.new.self) b))) c.in_ok-body.ensures c.send.ensures.told in
    let body = refusal_body c.args.number c.args.text.now (view c.args.variables) in
    subst (λ h. OnOk c.send.result (Adds c.args.self.now c.send.new.self (λ seq. numbered seq h body))) head told

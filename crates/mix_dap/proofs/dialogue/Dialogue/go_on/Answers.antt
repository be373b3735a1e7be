-- The talk over what the dialogue holds is the dialogue, with nothing read before; the numbers go on.
use Rattle.std.proofs.Common.{◌≡◌, ℕ, ap, sym, ◌∙◌}
use Rattle.std.proofs.lemmas.Result.{err_from_is_err_and}
use Rattle.rpc_stream.specs.Hearing.{kept}
use Rattle.mix_dap.specs.Dialogue.{Reached, Stage}
use Rattle.mix_dap.specs.Stage.{stage_of}
use Rattle.mix_dap.proofs.DialogueLemmas.{goes-over, goes-talked}
use Rattle.mix_dap.proofs.dialogue.Dialogue.go_on.Goals as goal

-- what is held and the number are those of the dialogue
there : (stage held : Stage) (seq number : ℕ) (from : Reached) → stage ≡ held → seq ≡ number → (held, number) ≡ from → (stage, seq) ≡ from
there stage held seq number from same counted is = ap (λ s. (s, seq)) same ∙ ap (λ n. (held, n)) counted ∙ is

pub returns-then-is_over-clause-dialogue : goal.returns-then-is_over-clause-dialogue
returns-then-is_over-clause-dialogue g c = goes-over c.args.self.now _ _ (sym c.is_over.ensures ∙ c.if-is_over.true)

pub returns-in_err-with-clause-dialogue : goal.returns-in_err-with-clause-dialogue
returns-in_err-with-clause-dialogue g c =
    let p = err_from_is_err_and c.from_residual.result c.from_residual.ensures.1 in
    rw (p.1, p.2)
    (goes-talked _ (c.of-served.result, c.clear.new.self.seq) c.args.self.now (c.with.new.served, c.with.new.self.outbox.seq) (_, c.with.new.self.outbox.seq)
    (kept c.new.result) (kept c.with.new.self.ear) (g.R.In.rest c.args.input.now) (g.R.In.rest c.with.new.input) (g.W.Out.told c.args.out.now) (g.W.Out.told c.with.new.out)
    c.in_err-with.ensures.talked
    (there _ _ _ _ c.args.self.now (c.of-served.ensures ∙ ap stage_of c.replace-holds.ensures.value) c.clear.ensures.seq c.self.view_is)
    (sym c.is_over.ensures ∙ c.if-is_over.false) c.new.ensures (ap stage_of c.replace-holds.ensures.after) c.in_err-with.ensures.partial)

pub returns-clause-dialogue : goal.returns-clause-dialogue
returns-clause-dialogue g c =
    goes-talked _ (c.of-served.result, c.clear.new.self.seq) c.args.self.now (c.with.new.served, c.with.new.self.outbox.seq) _
    (kept c.new.result) (kept c.with.new.self.ear) (g.R.In.rest c.args.input.now) (g.R.In.rest c.with.new.input) (g.W.Out.told c.args.out.now) (g.W.Out.told c.with.new.out)
    c.in_ok-with.ensures.talked
    (there _ _ _ _ c.args.self.now (c.of-served.ensures ∙ ap stage_of c.replace-holds.ensures.value) c.clear.ensures.seq c.self.view_is)
    (sym c.is_over.ensures ∙ c.if-is_over.false) c.new.ensures (ap (λ (s : Stage). (s, c.with.new.self.outbox.seq)) c.into_holds.ensures) c.in_ok-with.ensures.partial

use Rattle.std.proofs.Common.{Some, sym, subst, ◌∙◌}
use Rattle.mix_lsp.specs.Tokens.{Ends}
use Rattle.mix_lsp.proofs.TokenLemmas.{one_more}
use Rattle.mix_lsp.proofs.tokens.Row.push.Goals as goal

pub invariant_of-self-then-is_behind : goal.invariant_of-self-then-is_behind
invariant_of-self-then-is_behind c =
    subst (λ ts. Ends ts (Some c.args.token)) (sym c.in_ok-push.ensures.items)
    (one_more c.self.inside.list.items c.self.inside.last c.args.token c.self.invariant (sym c.is_behind.ensures ∙ c.if-is_behind.true))

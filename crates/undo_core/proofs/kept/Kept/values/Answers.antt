use Rattle.std.proofs.Common.{◌≡◌, ◌-◌, ◌∙◌, ap, length, drop, arith}
use Rattle.undo_core.proofs.kept.Kept.values.Goals as goal

pub returns : goal.returns
returns g c =
    let all : length c.backwards.result - c.self.inside.count ≡ 0 = omega (arith, ap length c.backwards.ensures, ap (λ k. length k.items) c.self.view_is, c.self.invariant) in
    c.of.ensures ∙ ap (λ n. drop n c.backwards.result) all ∙ c.backwards.ensures

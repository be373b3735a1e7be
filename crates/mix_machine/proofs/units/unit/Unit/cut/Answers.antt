use Rattle.std.proofs.Common.{◌≡◌, ◌≤◌, ◌*◌, ◌∙◌, true, refl, ap, sym, subst, take}
use Rattle.mix_machine.specs.Prelude.{block_length, has_medium, UnitState, IsUnit}
use Rattle.mix_machine.specs.units.Keep.{is-cut}
use Rattle.mix_machine.proofs.UnitLemmas.{counted, medium-cut, cut-view, cut-length}
use Rattle.mix_machine.proofs.units.unit.Unit.cut.Goals as goal

pub invariant_of-self : goal.invariant_of-self
invariant_of-self c =
    let u = c.self.inside in
    let s = c.args.self.now in
    let k = c.args.len in
    let medium : has_medium u.kind ≡ true = sym c.has_medium.ensures ∙ c.if-has_medium.true in
    let kind : u.kind ≡ s.kind = ap (λ (t : UnitState). t.kind) c.self.view_is in
    let cut = medium-cut s k (rw (← kind) medium) c.requires in
    let within : k ≤ u.count = rw (counted u s c.self.view_is) cut.0 in
    let at : c.from.result * c.from-length.result ≡ k * block_length u.kind =
    rw (c.from.ensures, c.from-length.ensures, c.block_length.ensures.is) refl in
    let items = c.truncate.ensures.items ∙ ap (λ n. take n u.words.items) at in
    let is_unit = subst IsUnit c.self.view_is c.self.invariant.is_unit in
    record {
      is_unit = subst IsUnit (sym (cut-view u s k _ c.self.view_is medium within items)) (is-cut s k is_unit c.requires);
      words = cut-length u k _ c.self.invariant within items;
    }

pub returns-then-has_medium : goal.returns-then-has_medium
returns-then-has_medium c =
    let u = c.self.inside in
    let s = c.args.self.now in
    let k = c.args.len in
    let medium : has_medium u.kind ≡ true = sym c.has_medium.ensures ∙ c.if-has_medium.true in
    let kind : u.kind ≡ s.kind = ap (λ (t : UnitState). t.kind) c.self.view_is in
    let within : k ≤ u.count = rw (counted u s c.self.view_is) (medium-cut s k (rw (← kind) medium) c.requires).0 in
    let at : c.from.result * c.from-length.result ≡ k * block_length u.kind =
    rw (c.from.ensures, c.from-length.ensures, c.block_length.ensures.is) refl in
    cut-view u s k _ c.self.view_is medium within (c.truncate.ensures.items ∙ ap (λ n. take n u.words.items) at)

use Rattle.std.proofs.Common.{◌≡◌, false, ◌&&◌, sym, ap, ◌∙◌, refl}
use Rattle.std.specs.Prelude.{nat_le}
use Rattle.mixal_asm.specs.Prelude.{is_awaited, emitted_of}
use Rattle.mixal_asm.proofs.DraftLemmas.{finished_define, emitted_closed, with_name-ok}
use Rattle.mixal_asm.proofs.draft.Draft.define.Goals as goal

pub invariant_of-self-2 : goal.invariant_of-self-2
invariant_of-self-2 c =
    let d = c.in_ok-define.ensures in
    record {
      within = c.self.invariant.within;
      finished =
          rw (c.close.ensures, d.ok, c.copied.ensures)
          (finished_define c.self.inside.names c.self.inside.words c.args.name c.args.value (rw c.copied.ensures at d.fresh) c.self.invariant.finished);
    }

pub returns-clause-ok : goal.returns-clause-ok
returns-clause-ok c =
    let fits : (is_awaited c.args.name c.args.self.now.emitted && nat_le 4096 c.args.value.magnitude) ≡ false =
    sym c.refuses.ensures ∙ c.if-refuses.false in
    let words : emitted_of c.close.new.self ≡ emitted_of c.self.inside.words =
    ap emitted_of c.close.ensures ∙ emitted_closed c.args.name c.args.value c.self.inside.words in
    with_name-ok c.args.self.now c.args.name c.args.value fits
    ∙ rw (← c.self.view_is, c.in_ok-define.ensures.ok, c.copied.ensures, words) refl

pub returns-clause-named : goal.returns-clause-named
returns-clause-named c =
    let words : emitted_of c.close.new.self ≡ emitted_of c.self.inside.words =
    ap emitted_of c.close.ensures ∙ emitted_closed c.args.name c.args.value c.self.inside.words in
    rw (← c.self.view_is, c.in_ok-define.ensures.ok, c.copied.ensures, words) refl

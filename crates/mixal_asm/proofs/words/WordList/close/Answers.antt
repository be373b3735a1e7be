use Rattle.std.proofs.Common.{ap, sym, subst, ◌∙◌}
use Rattle.std.specs.Prelude.{List, map}
use Rattle.mixal_asm.specs.Chain.{Link, Held, held_of, links_of, IsChained, closed_held, emitted_of}
use Rattle.mixal_asm.specs.Prelude.{is_awaited, Entry}
use Rattle.mixal_asm.proofs.ChainLemmas.{if_awaited, links_closed, held_closed}
use Rattle.mixal_asm.proofs.words.WordList.close.Goals as goal

pub close-requires-clause-fits : goal.close-requires-clause-fits
close-requires-clause-fits c =
    if_awaited c.args.name.now c.self.inside.entries.items c.copied-last.result _
    (c.copied-last.ensures ∙ c.get.ensures.value ∙ c.self.invariant.lasts c.args.name.now)
    (λ h. c.requires (ap (λ (held : List Held). is_awaited c.args.name.now (emitted_of held)) (sym c.self.view_is) ∙ h))

pub invariant_of-self : goal.invariant_of-self
invariant_of-self c =
    let links = ap links_of c.close.ensures ∙ links_closed c.args.name.now c.args.value c.self.inside.entries.items in
    subst (λ (links : List Link). IsChained links c.self.inside.last.entries) (sym links) c.self.invariant

pub returns : goal.returns
returns c =
    ap (λ (es : List Entry). map held_of es) c.close.ensures ∙ held_closed c.args.name.now c.args.value c.self.inside.entries.items
    ∙ ap (λ (held : List Held). map (closed_held c.args.name.now c.args.value) held) c.self.view_is

use Rattle.std.proofs.Common.{ap, ◌∙◌}
use Rattle.std.specs.Prelude.{is_some, List}
use Rattle.mixal_asm.specs.Prelude.{is_awaited, Held, emitted_of}
use Rattle.mixal_asm.proofs.ChainLemmas.{awaited}
use Rattle.mixal_asm.proofs.words.WordList.is_awaited.Goals as goal

pub returns : goal.returns
returns c =
    c.contains_key.ensures ∙ ap is_some (c.self.invariant.lasts c.args.name.now) ∙ awaited c.args.name.now c.self.inside.entries.items
    ∙ ap (λ (held : List Held). is_awaited c.args.name.now (emitted_of held)) c.self.view_is

use Rattle.std.proofs.Common.{ap, ◌∙◌, map}
use Rattle.std.specs.Prelude.{List}
use Rattle.mixal_asm.specs.Prelude.{first_wait, Entry, Held, emitted_of, held_of}
use Rattle.mixal_asm.proofs.ChainLemmas.{first_waiting}
use Rattle.mixal_asm.proofs.words.WordList.first_wait.Goals as goal

pub returns : goal.returns
returns c =
    c.first_wait.ensures ∙ first_waiting c.args.name.now c.deref.result.now
    ∙ ap (λ (entries : List Entry). first_wait c.args.name.now (emitted_of (map held_of entries))) c.deref.ensures.value
    ∙ ap (λ (held : List Held). first_wait c.args.name.now (emitted_of held)) c.self.view_is

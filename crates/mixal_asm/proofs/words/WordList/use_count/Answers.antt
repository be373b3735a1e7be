use Rattle.std.proofs.Common.{ℕ, List, length, ap, sym, ◌∙◌}
use Rattle.std.proofs.lemmas.List.{length-map}
use Rattle.mixal_asm.specs.Prelude.{Key, first_uses, Held, emitted_of}
use Rattle.mixal_asm.proofs.ChainLemmas.{uses_of_links}
use Rattle.mixal_asm.proofs.words.WordList.use_count.Goals as goal

pub returns : goal.returns
returns c =
    c.len.ensures.len ∙ sym (length-map c.self.inside.last.entries (λ (e : Key × ℕ). e.0))
    ∙ ap length (c.self.invariant.uses ∙ uses_of_links _ c.self.inside.entries.items)
    ∙ ap (λ (held : List Held). length (first_uses (emitted_of held))) c.self.view_is

use Rattle.std.proofs.Common.{refl}
use Rattle.mixal_asm.proofs.LineLemmas.{words_are}
use Rattle.mixal_asm.proofs.draft.Draft.into_program.Goals as goal

pub returns : goal.returns
returns c =
    rw (
      ← c.self.view_is,
      c.in_ok-words.ensures,
      c.references-patches.ensures,
      words_are c.self.inside.names c.self.inside.words c.self.invariant.finished,
    ) refl

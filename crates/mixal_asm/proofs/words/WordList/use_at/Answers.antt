use Rattle.mixal_asm.proofs.ChainLemmas.{use_in_order}
use Rattle.mixal_asm.proofs.words.WordList.use_at.Goals as goal

pub returns-in-Some : goal.returns-in-Some
returns-in-Some c =
    use_in_order _ _ _ _ _ c.self.invariant c.self.view_is (rw c.in-Some.is at c.get_index.ensures.entry)

pub returns-in-None : goal.returns-in-None
returns-in-None c =
    use_in_order _ _ _ _ _ c.self.invariant c.self.view_is (rw c.in-None.is at c.get_index.ensures.entry)

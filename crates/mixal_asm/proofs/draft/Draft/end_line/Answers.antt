use Rattle.mixal_asm.proofs.InsertLemmas.{taken_as_before}
use Rattle.mixal_asm.proofs.draft.Draft.end_line.Goals as goal

pub ended-requires : goal.ended-requires
ended-requires c =
    c.in_ok-insert_zeros.ensures.untaken
    (taken_as_before c.args.self.now.names c.insert_literals.new.self.names c.args.loc.now c.in_ok-insert_literals.ensures.others c.requires.untaken)

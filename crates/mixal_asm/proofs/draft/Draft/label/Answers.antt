use Rattle.std.proofs.Common.{ap}
use Rattle.mixal_asm.specs.PassOne.{Before}
use Rattle.mixal_asm.proofs.DraftLemmas.{untaken_is_new_here}
use Rattle.mixal_asm.proofs.draft.Draft.label.Goals as goal

pub define-requires : goal.define-requires
define-requires c =
    let untaken = rw c.in-Some.is at c.requires in
    rw c.name_of-name.ensures (untaken_is_new_here _ _ _ (ap (λ (b : Before). b.names) c.self.view_is) untaken)

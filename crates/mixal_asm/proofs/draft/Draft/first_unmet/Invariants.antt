use Rattle.std.proofs.Common.{◌≡◌, drop}
use Rattle.std.specs.List.{find}
use Rattle.mixal_asm.specs.Assembly.{is_unmet, first_uses}
use Rattle.mixal_asm.proofs.draft.Draft.first_unmet.Given as goal

abbrev pub invariant-loop-i : goal.invariant-loop-i
invariant-loop-i l =
    find (is_unmet l.self.names l.loc) (first_uses l.self.emitted) ≡ find (is_unmet l.self.names l.loc) (drop l.i (first_uses l.self.emitted))

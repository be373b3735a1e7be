use Rattle.std.proofs.Common.{◌≡◌, ap}
use Rattle.mixal_asm.specs.PassOne.{Before}
use Rattle.mixal_asm.proofs.draft.Draft.emit_literal.Goals as goal

pub emit-requires : goal.emit-requires
emit-requires c =
    let names : c.self.inside.names ≡ c.args.self.now.names = ap (λ (b : Before). b.names) c.self.view_is in
    rw names (c.requires c.len.result)

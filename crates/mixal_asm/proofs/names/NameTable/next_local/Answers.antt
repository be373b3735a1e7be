use Rattle.std.proofs.Common.{◌≡◌, arith}
use Rattle.mixal_asm.specs.PassOne.{locals_in}
use Rattle.mixal_asm.proofs.names.NameTable.next_local.Goals as goal

pub returns-clause-open : goal.returns-clause-open
returns-clause-open c =
    let last : c.locals.result ≡ locals_in c.args.d c.self.inside.values.entries = rw c.self.view_is c.locals.ensures in
    rw (← c.self.view_is) (c.self.invariant.fresh c.args.d c.locals.result (omega arith))

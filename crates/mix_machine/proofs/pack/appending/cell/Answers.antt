use Rattle.std.proofs.Common.{refl, rules}
use Rattle.mix_machine.proofs.PackLemmas.{longer-row}
use Rattle.mix_machine.proofs.pack.appending.cell.Goals as goal

pub returns-then-ends_before-clause-said : goal.returns-then-ends_before-clause-said
returns-then-ends_before-clause-said c =
    let row = c.if-ends_before.ensures.row (search rules) in
    λ a. longer-row _ _ _ _ c.in-Some.header _ c.args.place c.long_bits.result c.args.word a c.in-Some.ensures.items c.push_reserved.ensures.items
    c.push_reserved-then-ends_before.ensures.items refl c.long_bits.ensures c.ends_before.ensures.cell row.0 row.1

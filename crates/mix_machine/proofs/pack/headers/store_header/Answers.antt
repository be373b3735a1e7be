use Rattle.std.proofs.Common.{arith}
use Rattle.mix_machine.proofs.StoreLemmas.{store-made}
use Rattle.mix_machine.proofs.pack.headers.store_header.Goals as goal

pub returns : goal.returns
returns c =
    let took = c.elapsed.ensures (omega (arith, c.if-elapsed-ne2.false)) in
    λ w. store-made c.header.result _ c.args.place w c.args.from c.args.to c.header.ensures (omega (arith, c.from.ensures, c.number.ensures.is))
    (omega (arith, c.number.ensures)) (omega (arith, c.if-to-from.false)) (omega (arith, c.if-elapsed-ne2.false, took))

use Rattle.std.proofs.Common.{◌++◌, ap}
use Rattle.undo_core.specs.Pack.{unit_list}
use Rattle.mix_machine.proofs.PackLemmas.{read-last, read-split}
use Rattle.mix_machine.proofs.pack.OldPack.last.Goals as goal

pub returns-in-Some-clause-is : goal.returns-in-Some-clause-is
returns-in-Some-clause-is c =
    read-last _ c.args.units.now c.in-Some.header c.args.anchor c.last_before.result (ap (λ more. c.args.units.now ++ unit_list more) c.in-Some.is) c.last_before.ensures.is

pub returns-in_ok-header-in-None-clause-is : goal.returns-in_ok-header-in-None-clause-is
returns-in_ok-header-in-None-clause-is c =
    let header = c.in_ok-header-in-None in
    rw c.in-None.is
    (read-split c.args.units.now header.before.now header.header.now c.args.anchor c.last_before-in-None.result header.ensures.cases.0
    c.last_before-in-None.ensures.within c.last_before-in-None.ensures.is)

-- The last value is that of the header.
use Rattle.std.proofs.Common.{◌∙◌}
use Rattle.mix_machine.proofs.PartLemmas.{header-ended}
use Rattle.mix_machine.proofs.pack.OldPack.is_ended.Goals as goal

pub returns-in-Some : goal.returns-in-Some
returns-in-Some c =
    c.says_clock.ensures ∙ header-ended c.args.units.now c.in-Some.field-0-1.now c.in-Some.header.now c.args._anchor c.in-Some.ensures.cases.0 c.requires

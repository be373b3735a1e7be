-- A unit that is kept or not.
use Rattle.std.proofs.Common.{◌∙◌, sym}
use Rattle.mix_run.specs.Keep.{is_kept, kept_part, kept_unit}
use Rattle.mix_run.proofs.KeepLemmas.{added-not}
use Rattle.mix_run.proofs.keep.add_unit_of.Goals as goal

pub returns-else-is_kept : goal.returns-else-is_kept
unfolding kept_unit
returns-else-is_kept c =
    added-not (is_kept c.args.kind c.args.unit.now) _ (kept_part c.args.kind c.args.number c.args.unit.now) (sym c.is_kept.ensures ∙ c.if-is_kept.false)

use Rattle.mixal_asm.proofs.ListingLemmas.{rows_next}
use Rattle.mixal_asm.proofs.listing.add_rows.Goals as goal

pub loop-row-preserved : goal.loop-row-preserved
loop-row-preserved c = rows_next _ _ _ _ _ _ _ c.loop-row-test.true c.row-item.is c.loop-row.invariant c.in_ok-add_row.ensures

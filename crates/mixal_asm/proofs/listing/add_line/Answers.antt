use Rattle.std.proofs.Common.{◌∙◌}
use Rattle.mixal_asm.proofs.ListingLemmas.{line_text}
use Rattle.mixal_asm.proofs.listing.add_line.Goals as goal

pub returns : goal.returns
returns c =
    line_text _ _ _ _ _ _ _ c.laid_out.ensures (c.as_bytes.ensures.value ∙ c.in_ok-number.ensures.ok)
    c.in_ok-extend_from_slice.ensures.items c.in_ok-extend_from_slice-2.ensures.items

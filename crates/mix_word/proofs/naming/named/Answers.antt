use Rattle.std.proofs.Common.{◌∙◌}
use Rattle.mix_word.proofs.NameLemmas.{named_law, found_among, rows-length}
use Rattle.mix_word.proofs.LengthLemmas.{none_longer}
use Rattle.mix_word.proofs.naming.named.Goals as goal

pub rows_from-requires : goal.rows_from-requires
rows_from-requires c = rows-length _ _ _ c.rows.ensures.operations c.first_row-from.ensures.within

pub returns-clause-is : goal.returns-clause-is
returns-clause-is c = found_among _ _ _ _ _ _ _ c.rows.ensures.operations c.rows.ensures.names c.rows_from.ensures c.first_row-from.ensures.is c.first_named.ensures

pub returns-clause-law : goal.returns-clause-law
returns-clause-law c = named_law _ _ (found_among _ _ _ _ _ _ _ c.rows.ensures.operations c.rows.ensures.names c.rows_from.ensures c.first_row-from.ensures.is c.first_named.ensures)

pub returns-clause-long : goal.returns-clause-long
returns-clause-long c =
    λ longer. found_among _ _ _ _ _ _ _ c.rows.ensures.operations c.rows.ensures.names c.rows_from.ensures c.first_row-from.ensures.is c.first_named.ensures ∙ none_longer _ longer

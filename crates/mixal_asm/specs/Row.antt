-- What is seen of a row of the listing.
use Rattle.mixal_asm.specs.declared.row.Row.{Row}
use Rattle.mixal_asm.specs.declared.row.Source.{Source}
use Rattle.mixal_asm.specs.declared.row.Source.TheVariants.{Line, Literal, Name}
use Rattle.mixal_asm.specs.PassOne as pass
use Rattle.mixal_asm.specs.PassOne.{SourceValue, OfLiteral, OfName, RowValue}

abbrev pub source_value : Source → SourceValue
source_value (Line number text) = pass.Line number text.items
source_value (Literal text) = OfLiteral text.items
source_value (Name symbol) = OfName symbol

abbrev pub row_value : Row → RowValue
row_value row = record { source = source_value row.source; shown = row.shows }

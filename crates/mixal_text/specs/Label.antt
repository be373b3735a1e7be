-- What stands in the place of LOC (1.3.2): an ordinary symbol, or dH.
use Rattle.std.specs.Prelude.{ℕ, List, Option, Some, None}
use Rattle.mixal_text.specs.declared.local.Direction.{Direction}
use Rattle.mixal_text.specs.declared.local.Direction.TheVariants.{Here, Backward, Forward}
use Rattle.mixal_text.specs.declared.local.Local.{Local as LocalSymbol}
use Rattle.mixal_text.specs.declared.label.Label.{Label}
use Rattle.mixal_text.specs.declared.label.Label.TheVariants.{Name, Local}
use Rattle.mixal_text.specs.Local.{local_of}
use Rattle.mixal_text.specs.Symbol.{symbol_of}

-- of the local symbols only dH defines a place
abbrev pub local_label : ℕ → Direction → Option Label
local_label d Here = Some (Local d)
local_label d Backward = None
local_label d Forward = None

abbrev pub label_from : Option LocalSymbol → Option (List ℕ) → Option Label
label_from (Some l) symbol = local_label l.digit l.direction
label_from None (Some name) = Some (Name name)
label_from None None = None

-- the label that a whole text is
unfoldable pub label_of : List ℕ → Option Label
label_of text = label_from (local_of text) (symbol_of text)

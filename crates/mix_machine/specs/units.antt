-- The units: their kinds, what each holds, the deck that fills them, and the lemmas on their blocks.
pub mod Alike
pub mod Back
pub mod Keep
pub mod UnitKind
pub mod Row
pub mod Unit
pub mod Units
pub mod View
pub mod deck

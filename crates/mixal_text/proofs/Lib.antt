pub mod Positions
pub mod SymbolLemmas
pub mod ExpressionLemmas
pub mod PartLemmas
pub mod WValueLemmas
pub mod OpLemmas
pub mod AlfLemmas

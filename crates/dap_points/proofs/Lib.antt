pub mod CellsLemmas
pub mod PointLemmas
pub mod WrittenLemmas

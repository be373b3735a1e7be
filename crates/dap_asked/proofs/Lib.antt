pub mod FaultLemmas
pub mod ListLemmas
pub mod MemoryLemmas
pub mod ReferenceLemmas

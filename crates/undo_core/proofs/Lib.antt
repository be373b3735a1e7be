pub mod CountLemmas
pub mod Ending
pub mod Holding
pub mod LeadsLemmas
pub mod Many
pub mod Parting
pub mod Redoing
pub mod Repeating
mod ReplayLemmas
pub mod Restoring
pub mod RunLemmas
pub mod Sound
pub mod Stored
pub mod Reverting
pub mod Unwinding

pub mod Fields
pub mod Fault
pub mod Members
pub mod Message
pub mod Reads
pub mod Request
pub mod Whole

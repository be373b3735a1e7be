pub mod Fault
pub mod Files

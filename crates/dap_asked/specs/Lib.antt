pub mod Deed
pub mod Fault
pub mod Kind
pub mod Layout
pub mod Memory
pub mod Scope
pub mod Value
pub mod Watch

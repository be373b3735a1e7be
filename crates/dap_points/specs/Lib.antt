pub mod Breakpoint
pub mod Comparison
pub mod Points
pub mod Written

pub mod Ending
pub mod Plan
pub mod Run
pub mod Shelf

pub mod Conditions
pub mod Named

pub mod Aside
pub mod Person

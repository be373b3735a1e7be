pub mod Assertion
pub mod Passages
pub mod Reading
pub mod Rows

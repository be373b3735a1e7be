-- The lemmas that a state above may use.
pub mod Repeating

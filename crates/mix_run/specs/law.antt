pub mod SameDeck
pub mod Truncation

-- The deck: its headers, what its lines hold, and its faults.
pub mod Block
pub mod Deck
pub mod Fault
pub mod Header
pub mod ReaderView

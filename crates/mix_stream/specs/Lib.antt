pub mod Fake
pub mod Stream

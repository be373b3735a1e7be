pub mod Engine
pub mod Owned
pub mod Talk

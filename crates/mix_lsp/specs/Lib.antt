pub mod Edit
pub mod Protocol
pub mod Served
pub mod Tokens

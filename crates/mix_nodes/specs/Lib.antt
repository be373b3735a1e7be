pub mod Graph
pub mod Nodes
pub mod Read
pub mod Rows
pub mod Shape
pub mod View

pub mod Nodes
pub mod Words
pub mod Report

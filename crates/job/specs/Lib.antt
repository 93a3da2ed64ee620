pub mod Files
pub mod Links
pub mod Names
pub mod Rows
pub mod Tables

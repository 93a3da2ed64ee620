pub mod Commands
pub mod Evaluations
pub mod Number
pub mod Reasons
pub mod Reckonings
pub mod Usage

pub mod Outcomes
pub mod Sides
mod Cells
mod Orders

pub mod Filed
pub mod Named
pub mod Tabled
pub mod Walked

-- What to believe of bridges.
pub mod Bridges

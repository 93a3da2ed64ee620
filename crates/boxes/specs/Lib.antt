-- What to believe of the boxes, in the order of explaining; Inner and Stored are for inner facts and functions only.
pub mod Chains
pub mod Meaning
pub mod Inner
pub mod Stored

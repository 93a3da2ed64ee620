pub mod Cells
pub mod Faults
pub mod Fork
pub mod Leaf
pub mod Meaning
pub mod Texts

pub mod Float
pub mod Summary
pub mod Texts
pub mod Trail

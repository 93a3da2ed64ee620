pub mod Answered
pub mod Evaluates
pub mod Filled
pub mod Places
pub mod Order
pub mod Refusals
pub mod Within

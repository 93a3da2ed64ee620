pub mod Accepted
pub mod Alike
pub mod Collections
pub mod Joined
mod Returns

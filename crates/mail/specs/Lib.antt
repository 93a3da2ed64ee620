-- What to believe of mails, in the order of explaining.
pub mod Refusals
pub mod Messages
pub mod Asked
pub mod Collections
pub mod Meaning
pub mod Mails
pub mod Returned

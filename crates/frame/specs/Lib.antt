pub mod Causes
pub mod Crc
pub mod Frames
pub mod Meaning
pub mod Sources
pub mod Spelling
pub mod Speeds

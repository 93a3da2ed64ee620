-- What to believe of the line.
pub mod Lines

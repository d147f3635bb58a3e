pub mod Ranges
pub mod Boxes
pub mod References
pub mod Occurrences
pub mod Groups
pub mod Law

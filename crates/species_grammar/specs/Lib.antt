pub mod Reader
pub mod Lawful
pub mod Whole

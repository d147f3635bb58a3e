-- The definitions that contracts cite.
pub mod Words
pub mod Reading
pub mod Places
pub mod Given
pub mod Front
pub mod Left
pub mod Parsing
pub mod Operators
pub mod Headers
pub mod Listed
pub mod Parsed
pub mod Finished
pub mod Tabled

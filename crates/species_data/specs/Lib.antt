pub mod Data
pub mod Elements
pub mod Lines
pub mod Seen
pub mod Table
pub mod Text

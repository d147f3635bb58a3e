pub mod Limited
pub mod Subscript

pub mod Law
pub mod Walks

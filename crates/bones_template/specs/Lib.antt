pub mod Holes
pub mod Filling

pub mod Spans
pub mod Pairwise
pub mod Sets
pub mod Sizes
pub mod Shapes

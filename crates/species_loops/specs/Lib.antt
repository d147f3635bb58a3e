pub mod Lines
pub mod Ranges
pub mod Bounds
pub mod Extremes
pub mod Sizes
pub mod Headers
pub mod Bands
pub mod Weights

pub mod Laws
pub mod Levels
pub mod Depth
pub mod Whole
pub mod Free
pub mod Same

pub mod Coordinate
pub mod Region
pub mod Asked

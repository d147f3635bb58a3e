pub mod Slopes
pub mod Corners
pub mod Counters
pub mod Spreads
pub mod Regroup
pub mod Signs

pub mod Places
pub mod Bands
pub mod Decisions
pub mod Plans
pub mod Counts

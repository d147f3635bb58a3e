pub mod Arrivals
pub mod Effects
pub mod Meetings
pub mod Nests
pub mod Law

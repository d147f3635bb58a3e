pub mod Built
pub mod Found
pub mod Placed
pub mod Standings

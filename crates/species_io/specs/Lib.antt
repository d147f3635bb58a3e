-- The definitions that contracts cite.
pub mod Told
pub mod Memory
pub mod Piecewise

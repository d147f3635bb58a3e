pub mod Products
pub mod Sizes
pub mod Divisors
pub mod Ranges

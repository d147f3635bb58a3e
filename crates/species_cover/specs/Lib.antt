pub mod Within
pub mod Cover
pub mod Places
pub mod Sizes

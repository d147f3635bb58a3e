pub mod Law
pub mod Spelt
pub mod Meant
pub mod Unplaced
pub mod ReadBack
pub mod Texts

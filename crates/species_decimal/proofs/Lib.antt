mod Digits
pub mod NumberLaws
pub mod WordLaws

pub mod Totals
pub mod Coefficients
pub mod Solutions
pub mod Steps

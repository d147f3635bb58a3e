pub mod Printed
pub mod Expressions
pub mod Statements
pub mod Units
pub mod Named
pub mod Texts

pub mod Loops
pub mod Annotated

pub mod Refuted
pub mod Carried
pub mod Alike
pub mod Law

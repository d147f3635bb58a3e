pub mod Rising
pub mod Point
pub mod Value
pub mod Box
pub mod Corner

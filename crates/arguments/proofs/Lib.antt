pub mod Reading
pub mod Laws
pub mod Placed
pub mod Vectors

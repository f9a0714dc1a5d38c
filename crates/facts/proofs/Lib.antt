pub mod At
pub mod Laws
pub mod Vectors
pub mod Whole

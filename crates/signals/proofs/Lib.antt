pub mod Reading
pub mod Words
pub mod Row
pub mod Determined
pub mod Vectors
pub mod AtItsSize

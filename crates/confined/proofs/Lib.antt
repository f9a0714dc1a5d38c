pub mod Reading
pub mod Laws
pub mod Worth
pub mod Whole
mod Handed

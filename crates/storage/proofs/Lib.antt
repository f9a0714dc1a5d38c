pub mod Tags
pub mod Reading
pub mod Laws
pub mod Consumed

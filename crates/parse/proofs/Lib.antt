pub mod Reading
pub mod Determined
pub mod Nothing
mod Handed

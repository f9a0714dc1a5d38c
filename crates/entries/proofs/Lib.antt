pub mod Turns
pub mod Promises
pub mod Flat

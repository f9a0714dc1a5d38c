pub mod There
mod Reading
pub mod Seen

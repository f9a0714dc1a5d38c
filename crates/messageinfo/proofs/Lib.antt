pub mod Reading
pub mod Bytes

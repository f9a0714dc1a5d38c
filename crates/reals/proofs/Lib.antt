pub mod Patterns
pub mod Reading

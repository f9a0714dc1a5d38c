pub mod Reading
pub mod Same
pub mod Words

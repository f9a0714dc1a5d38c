pub mod Complement
pub mod Reading

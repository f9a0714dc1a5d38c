pub mod Lengths
pub mod Names
pub mod Words
pub mod Examples

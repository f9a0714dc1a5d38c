pub mod Every
pub mod Reading
pub mod Again
pub mod Lengths

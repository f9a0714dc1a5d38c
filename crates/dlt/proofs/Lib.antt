pub mod Reading
pub mod Fitting
pub mod Exactly
pub mod Kept

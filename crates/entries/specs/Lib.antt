pub mod Form
pub mod Turn
pub mod Flat

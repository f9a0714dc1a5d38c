pub mod Signal
pub mod Signals

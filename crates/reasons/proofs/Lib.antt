pub mod Gives
pub mod Rules
pub mod Calls

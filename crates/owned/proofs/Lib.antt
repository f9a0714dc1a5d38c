pub mod Thrifty
pub mod Rules
pub mod Opening
pub mod Own
pub mod Beside
pub mod Overran
pub mod Calls
pub mod Witness

pub mod Moved
pub mod Text
pub mod Identifiers
pub mod Headers
pub mod Determined
pub mod Asks
pub mod Read

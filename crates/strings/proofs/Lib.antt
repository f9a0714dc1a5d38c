pub mod Utf8
pub mod Longest
pub mod Strings
pub mod Spelled
pub mod Reasons

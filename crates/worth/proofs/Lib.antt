pub mod Opening
pub mod Ends
pub mod Decided
pub mod Worth
pub mod Whole
pub mod Examples
pub mod Invalid
pub mod Filtered

pub mod Old
pub mod Rewrite
pub mod Sorts

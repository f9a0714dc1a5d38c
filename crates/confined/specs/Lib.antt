pub mod Confined
pub mod Need

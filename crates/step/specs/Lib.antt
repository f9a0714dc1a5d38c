pub mod Step
pub mod Glance

pub mod Place
pub mod Fair
pub mod Reading
pub mod Determined
pub mod Glance
pub mod Past
pub mod Own

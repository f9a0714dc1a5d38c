pub mod Reading
mod Outlined
pub mod Determined

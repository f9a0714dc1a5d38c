pub mod Layout
pub mod Outlined
pub mod Arguments
pub mod Raw

-- The crate's own lemmas.
pub mod Rows
pub mod Whole

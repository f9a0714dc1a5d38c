-- What is read, and what is written of it.
pub mod Gathered
pub mod Written

-- What is read, and what is printed of it.
pub mod Gathered
pub mod Listing

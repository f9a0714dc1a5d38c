-- The type info word of document 01, which words are accepted, and what is kept of one.
pub mod TypeInfoWord
pub mod Accepted
pub mod Kept

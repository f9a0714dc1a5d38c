-- The header type byte of document 01's step 3, and the lengths of the headers.
pub mod Bits
pub mod HeaderType

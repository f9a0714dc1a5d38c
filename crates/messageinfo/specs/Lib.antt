-- The message info of document 01's step 4, the filter's level, and what is kept of the byte.
pub mod MessageInfo
pub mod Level
pub mod Kept

pub mod Laws
pub mod Inverse
pub mod Ends

pub mod Cases
pub mod Laws
pub mod Calls
pub mod Going

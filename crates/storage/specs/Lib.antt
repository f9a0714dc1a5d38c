pub mod Storage
pub mod Consume
pub mod Settled

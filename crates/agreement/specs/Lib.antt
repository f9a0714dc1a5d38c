pub mod Identifier
pub mod Agree
pub mod Read

pub mod Thrifty
pub mod Overran
pub mod Beside

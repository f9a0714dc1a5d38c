pub mod Laws
pub mod Walks
pub mod Row
pub mod Raw
pub mod Passing

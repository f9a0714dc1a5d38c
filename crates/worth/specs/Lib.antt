pub mod Opening
pub mod Need
pub mod Invalid

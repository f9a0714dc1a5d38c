pub mod There
pub mod Outline

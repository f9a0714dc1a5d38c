-- The crate's own lemma.
pub mod Long

-- Proofs that impls supply with their functions. No contract cites them.
pub mod AtOnce

-- Proofs given with types. No contract cites them.
pub mod Codes

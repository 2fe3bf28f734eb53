-- Used by public contracts.
pub mod Words
pub mod Signs
pub mod Limits
pub mod Characters
-- Proofs given with types: contracts see a name as its bytes.
pub mod Laws

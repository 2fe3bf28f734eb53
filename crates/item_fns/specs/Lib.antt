-- The definitions that public contracts use.
pub mod Numbers
pub mod Items
pub mod Identities
pub mod Folds
pub mod RightFold
-- The definitions that proofs and bodies use.
pub mod NumberLists
pub mod Residue
pub mod AtOnce
-- Proofs that impls supply with their functions.
pub mod Laws

-- Meaning of the public contracts.
pub mod OuterProduct
pub mod InnerProduct
-- Used by proofs and bodies.
pub mod SmallProducts
pub mod RowByColumn
pub mod RowFolds
pub mod Unions
pub mod OuterResults
-- Proofs that impls supply with their functions: changes stay inside the boxes, and results grow as announced.
pub mod Laws

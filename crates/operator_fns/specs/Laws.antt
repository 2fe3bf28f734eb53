-- Proofs that impls supply with their functions. No contract cites them.
pub mod OuterProduct
pub mod InnerProductReads
pub mod InnerProduct
pub mod OuterProductGrowth
pub mod InnerPlaces
pub mod JoinedIndices

-- Proofs that impls supply with their functions. No contract cites them.
pub mod ReadLines
pub mod Reduce
pub mod LinesGrowth
pub mod ReducedShapes
pub mod LineIndices

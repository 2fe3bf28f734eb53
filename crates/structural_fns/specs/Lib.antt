-- The definitions that public contracts use.
pub mod AxisCounts
pub mod Reshape
pub mod Ravel
pub mod Take
pub mod Drop
pub mod Catenate
pub mod Reverse
pub mod Rotate
pub mod Transpose
pub mod DyadicTranspose
-- The definitions that proofs and bodies use.
pub mod LeastLength
pub mod Part
-- The laws that impls supply with their functions: change and growth.
pub mod Laws

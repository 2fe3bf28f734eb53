-- The meaning of public contracts.
pub mod FoldTrees
pub mod ArrayLines
pub mod Joined
-- Definitions for proofs and bodies.
pub mod FoldKinds
pub mod Parts
pub mod Sums
pub mod Products
pub mod LineTrees
pub mod LineBlocks
pub mod PartTrees

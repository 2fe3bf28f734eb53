-- Meaning of the public contracts.
pub mod Lines
pub mod Reduce
pub mod AxisLines
pub mod Sum
-- Used by proofs and bodies.
pub mod Columns
pub mod LeftFolds
-- Effect of changes on results.
pub mod Growth
-- Proofs that impls supply with their functions: changes stay inside the boxes, and results grow as announced.
pub mod Laws

-- The meaning of public contracts.
pub mod Outcomes
pub mod Meaning
pub mod Constants
pub mod Tables
pub mod Formulas
pub mod Rules
pub mod Changes
pub mod Inputs
pub mod Sums
pub mod Holdings
pub mod Plans
pub mod Joins
-- Used by proofs and bodies.
pub mod Evaluated
pub mod Counts
pub mod Stages
pub mod Progress
-- The proofs that an impl of a model gives.
pub mod Laws

-- The meaning of public contracts.
pub mod Names
pub mod Meaning
pub mod Cells
pub mod Rows
pub mod Changes
pub mod History
pub mod Costs
pub mod Locality
-- Used by proofs and bodies.
pub mod Entries
pub mod ProposedSheet
pub mod NameOrder
pub mod Live
pub mod Planning
pub mod Tables
pub mod Pending
-- Proofs that impls give with their types: the contracts' view of a type is a set.
pub mod Laws

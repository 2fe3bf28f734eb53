mod Arising
mod Asked
pub mod Accounted
pub mod Binding
pub mod CellPatches
pub mod Cycles
pub mod Deltas
mod Dependents
mod Entered
pub mod Examples
pub mod Forward
pub mod Indices
pub mod Keeping
pub mod Live
mod Locality
pub mod NameEquality
pub mod PlannedNames
pub mod Proposed
pub mod Putting
pub mod Readied
pub mod Rebound
pub mod Refused
pub mod Removing
pub mod Rows
pub mod Scratch
mod Solution
pub mod Stepped
pub mod Sums
pub mod Working

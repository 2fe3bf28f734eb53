-- Meaning of the public contracts.
pub mod LineSums
pub mod JoinedPatches
pub mod NewLines
pub mod Totals
pub mod Summed

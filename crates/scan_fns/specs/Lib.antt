-- Meaning of the public contracts.
pub mod Scan
-- Used by proofs and bodies.
pub mod LinearScan
pub mod Prefixes
pub mod NearTotals
pub mod RecalledScan
pub mod ResidueScan
-- Effect of changes on results.
pub mod BoxLines
-- Proofs that impls supply with their functions: changes stay inside the boxes, and results grow as announced.
pub mod Laws

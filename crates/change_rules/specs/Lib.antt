-- Meaning of the public contracts.
pub mod Evaluation
pub mod Nodes
pub mod Currency
-- Used by bodies.
pub mod Together
pub mod Copies

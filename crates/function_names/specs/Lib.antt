-- Used by public contracts.
pub mod Axes

-- The definitions that public contracts use.
pub mod RuleModels
pub mod Reaches
pub mod Tightness
pub mod Meters
pub mod Growth
pub mod Parts
-- The definitions that rules use.
pub mod Ways
pub mod Places
pub mod Sourced

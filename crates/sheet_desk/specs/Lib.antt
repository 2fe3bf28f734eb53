-- The meaning of public contracts.
pub mod Slots
pub mod Desk
pub mod Asked
pub mod Histories
-- Used by proofs and bodies.
pub mod Held

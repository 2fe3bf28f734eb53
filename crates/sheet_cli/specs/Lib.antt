-- The meaning of public contracts.
pub mod Lines
pub mod Answer
pub mod Answers
pub mod Run
pub mod Devices
pub mod Endings
pub mod Hosts
pub mod Programs
-- Used by proofs and bodies.
pub mod Refusals
pub mod Printed
pub mod Progress

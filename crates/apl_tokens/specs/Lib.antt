-- Used by public contracts.
pub mod Lexemes
pub mod Signs
pub mod Characters
pub mod Scans
pub mod Scanning
pub mod Spans
-- Used by proofs and bodies.
pub mod Scanner
pub mod Order
pub mod NumberEdits
pub mod Reading

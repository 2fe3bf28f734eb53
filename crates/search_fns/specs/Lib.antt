-- The meaning of public contracts.
pub mod SameItem
pub mod Lookup
pub mod IndexOf
pub mod Member
pub mod Encode
pub mod EncodedRows
pub mod Decode
pub mod DecodedRows
-- Changes of results.
pub mod Digits
-- Laws that impls give with their functions: every change lies in the boxes.
pub mod Laws

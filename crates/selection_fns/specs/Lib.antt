-- The meaning of public contracts.
pub mod Shape
pub mod IndexGenerator
pub mod Replicate
pub mod Index
-- The places of a result.
pub mod IndexPlaces
pub mod Kept
-- Changes of results.
pub mod Growth
pub mod PositionAxes
pub mod WholeBox
-- Laws that impls give with their functions: every change lies in the boxes, and growth is announced.
pub mod Laws

-- Laws that impls give with their functions. No contract cites them.
pub mod Shape
pub mod IndexGenerator
pub mod Replicate
pub mod LeastBoxes
pub mod Index
pub mod IndexGrowth
pub mod RepeatedPlaces
pub mod CopiedPlaces

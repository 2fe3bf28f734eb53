-- Laws that impls supply with their functions. No contract cites them.
pub mod Reverse
pub mod Transpose
pub mod DyadicTranspose
pub mod CountedAxes
pub mod PlacesOrFill
pub mod Ravel
pub mod Reshape
pub mod Take
pub mod Drop
pub mod Catenate
pub mod Rotate
pub mod JoinedAxes
pub mod SharedAxes
pub mod RotatedLines

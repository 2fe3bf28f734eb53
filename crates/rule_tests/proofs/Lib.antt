pub mod TwoLines

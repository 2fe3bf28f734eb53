-- Laws that impls give with their functions. No contract cites them.
pub mod Reads
pub mod IndexOf
pub mod Member
pub mod Encode
pub mod Decode

pub mod Writing
pub mod Numerals
pub mod Ranks
pub mod Decimals
pub mod Reading
pub mod Tables
pub mod Written
pub mod TableCases

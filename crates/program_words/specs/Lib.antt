pub mod Program
pub mod Asked
pub mod Matched

pub mod Commands
pub mod Exact
pub mod Rows
pub mod Walks
pub mod Required
pub mod Refusals

pub mod Walked
pub mod PatchRight
pub mod Refreshed
pub mod Nodes
pub mod Told
mod OneBox
pub mod GrownRight
pub mod NodeRight
pub mod Right
pub mod Items
pub mod Copied

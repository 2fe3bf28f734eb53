-- The definitions that public contracts use.
pub mod Checks
pub mod Arguments
pub mod Axes
pub mod Sources
pub mod ArgumentLists
pub mod Answers
pub mod Boxes
pub mod BoxLaws
pub mod Patches
pub mod Tails
pub mod Moves
-- The definitions that bodies use.
pub mod Advancing
pub mod NewItems
pub mod Laid

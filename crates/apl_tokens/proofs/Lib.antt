pub mod Decimals
pub mod Turns
pub mod Walk
pub mod Sound
pub mod Complete
pub mod Order
pub mod EditBytes

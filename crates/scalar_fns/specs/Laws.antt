-- Laws that impls supply with their functions. No contract cites them.
pub mod OneItem
pub mod EachMonadic
pub mod EachDyadic
pub mod EachMonadicGrowth
pub mod EachDyadicGrowth
pub mod Extension

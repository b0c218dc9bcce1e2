pub mod Running
pub mod Lanes
pub mod Whole
pub mod Rounds

pub mod Advancing
pub mod Lanes
pub mod Walking

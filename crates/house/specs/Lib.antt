pub mod Records
pub mod Faults
pub mod Setups
pub mod Slices
pub mod Series

pub mod Examples
pub mod Outcomes
pub mod Packets
pub mod Sources
pub mod Theorems

pub mod Copies
pub mod Runs
pub mod Puts
pub mod Takes
pub mod Sixes

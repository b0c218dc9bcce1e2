pub mod Running
pub mod Digest

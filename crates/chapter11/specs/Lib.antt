pub mod Packet
pub mod Source

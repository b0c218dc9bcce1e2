pub mod Bytes
pub mod Composes
pub mod Received
pub mod Receives
pub mod Sends

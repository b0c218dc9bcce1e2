pub mod Composing
pub mod Receiving
pub mod Sending

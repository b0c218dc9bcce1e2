pub mod Wire
pub mod Reading
pub mod Limits

pub mod Turn
pub mod Scripts

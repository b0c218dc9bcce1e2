pub mod Taking
pub mod Own

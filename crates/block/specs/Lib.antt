pub mod Block
pub mod Decimal

pub mod Test
pub mod Xor
pub mod Words
pub mod Table
pub mod Decoder
pub mod Ends
pub mod Theorems
pub mod Lookups

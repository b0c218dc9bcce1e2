pub mod Eps

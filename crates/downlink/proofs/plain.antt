pub mod Frame
pub mod Forecast
pub mod Join
pub mod Low
pub mod Tp

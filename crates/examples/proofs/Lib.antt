pub mod Sixth
pub mod Checked
pub mod Contract
pub mod SenderContract

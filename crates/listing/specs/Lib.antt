pub mod Lines
pub mod Tens
pub mod Hearing
pub mod Recordings

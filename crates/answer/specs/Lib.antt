pub mod Answer
pub mod Host
pub mod Replays
pub mod Answering
pub mod Cases

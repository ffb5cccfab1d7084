pub mod Reads
pub mod State
pub mod Answers
pub mod Kept
pub mod Calls
pub mod Examples

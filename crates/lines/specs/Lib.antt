pub mod Lines
pub mod Cutter
pub mod Answers
pub mod Examples

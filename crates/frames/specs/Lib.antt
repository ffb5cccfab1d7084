pub mod Digits
pub mod Entries
pub mod Answers
pub mod Orders
pub mod Frames
pub mod Lines
pub mod AnswerLine
pub mod Examples

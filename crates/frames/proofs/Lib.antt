pub mod AnswerLaws
pub mod DigitLaws
pub mod EntryLaws
pub mod OrderLaws
pub mod FrameLaws
pub mod Loops
pub mod Laying
pub mod RoundTrip

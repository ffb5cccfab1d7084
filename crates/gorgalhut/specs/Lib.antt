pub mod Answered
pub mod Numbered
pub mod Framed
pub mod Timed
pub mod TimedExamples

pub mod AnsweredLaws
pub mod NumberedLaws
pub mod FramedLaws
pub mod AgreeLaws
pub mod TimedLaws

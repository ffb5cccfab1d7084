pub mod ReadLaws
pub mod StateLaws
pub mod HearLaws
pub mod PieceLaws
pub mod KeptLaws
pub mod CallLaws
pub mod ToldLaws

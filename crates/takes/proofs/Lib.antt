pub mod SumLaws
pub mod ReadyLaws
pub mod HandLaws
pub mod EmptyLaws

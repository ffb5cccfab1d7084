pub mod DayLaws
pub mod SumLaws

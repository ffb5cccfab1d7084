pub mod LineLaws
pub mod SaidLaws
pub mod RunLaws

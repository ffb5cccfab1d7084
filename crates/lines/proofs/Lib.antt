pub mod LineLaws
pub mod CutterLaws
pub mod WholeLaws
pub mod Pieces
pub mod NextLines
pub mod Agreement

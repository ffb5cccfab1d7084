pub mod SizeLaws
pub mod RisenLaws
pub mod LinkLaws
pub mod FieldLaws

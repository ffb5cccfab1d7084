pub mod DecimalLaws
pub mod LaidLaws
pub mod SignedLaws

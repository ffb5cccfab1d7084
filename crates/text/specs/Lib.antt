pub mod Decimal
pub mod Laid
pub mod Examples
pub mod Bytes

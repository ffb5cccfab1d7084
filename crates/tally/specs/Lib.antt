pub mod Day
pub mod Sums
pub mod Told
pub mod Examples

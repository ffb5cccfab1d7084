pub mod Lines
pub mod Says
pub mod Examples
pub mod Runs

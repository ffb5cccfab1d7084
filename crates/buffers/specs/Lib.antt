pub mod Slots
pub mod Format
pub mod Post
pub mod Weights
pub mod Rules
pub mod Fresh
pub mod Counters

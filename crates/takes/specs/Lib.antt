pub mod Heads
pub mod Emptying

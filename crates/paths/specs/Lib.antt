pub mod Placing
pub mod Way
pub mod Along
pub mod Refills
pub mod Laying

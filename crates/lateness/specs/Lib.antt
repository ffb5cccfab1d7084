pub mod Clock
pub mod Ordered
pub mod Pairs
pub mod Reports
pub mod Answers
pub mod Examples

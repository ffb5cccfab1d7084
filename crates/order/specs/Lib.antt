pub mod Walk
pub mod Rule

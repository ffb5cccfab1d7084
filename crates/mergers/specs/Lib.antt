pub mod Moves
pub mod Subtree
pub mod Post
pub mod Fills

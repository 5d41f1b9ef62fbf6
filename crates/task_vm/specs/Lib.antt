pub mod Framed
pub mod Parts
pub mod Seen
pub mod Wishes
pub mod Tasks
pub mod States
pub mod Wanting
pub mod Sample

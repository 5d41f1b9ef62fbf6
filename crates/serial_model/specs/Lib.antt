pub mod World
pub mod Go
pub mod Run
pub mod Bounds

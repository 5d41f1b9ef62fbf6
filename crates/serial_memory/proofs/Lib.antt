pub mod Memories
pub mod Names

pub mod Ranges
pub mod Objects
pub mod Marks

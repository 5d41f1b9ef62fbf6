pub mod Memory
pub mod Marks
pub mod Ranges
pub mod Access
pub mod Names

pub mod Memory
pub mod Access
pub mod Names

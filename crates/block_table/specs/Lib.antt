pub mod Rows
pub mod Places
pub mod Index
pub mod Entries
pub mod Kept
pub mod Lists

pub mod Spaces
pub mod Places
pub mod Accesses
pub mod Copies
pub mod Ranges
pub mod First
pub mod Words
pub mod Kept

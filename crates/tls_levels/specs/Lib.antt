pub mod Images
pub mod Owners
pub mod Sharing
pub mod Kept

pub mod Layout
pub mod Objects
pub mod Marks
pub mod Copies
pub mod Changes
pub mod Maps
pub mod Kept

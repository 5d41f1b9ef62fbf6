pub mod Slots
pub mod Named

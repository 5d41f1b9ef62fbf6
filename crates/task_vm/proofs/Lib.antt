pub mod Ends
pub mod Slots
pub mod Measure
pub mod Answered
pub mod Given
pub mod Runs
pub mod Sample

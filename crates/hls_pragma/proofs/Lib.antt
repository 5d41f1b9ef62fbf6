pub mod CutSteps
pub mod Lists
pub mod NameSteps
pub mod Ordered
pub mod Readings

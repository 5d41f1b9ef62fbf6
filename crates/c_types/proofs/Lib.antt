pub mod Known
pub mod Pairs
pub mod Buffers
pub mod DraftSteps
mod Least
pub mod Order
pub mod Laws
pub mod ScopeMaps
pub mod Walks
pub mod Two
pub mod Applied
pub mod LookSteps
pub mod CallForms
pub mod Passes
pub mod Checked
pub mod Mains
pub mod Sizes

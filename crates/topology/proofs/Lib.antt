pub mod Ranges
pub mod MachineLaws
pub mod FileLaws
pub mod PlaceLaws

pub mod Laid
pub mod Cells
pub mod Edits
pub mod Puts
pub mod Fits
pub mod Counts

pub mod Turning
pub mod Going

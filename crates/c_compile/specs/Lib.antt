pub mod Compiled
pub mod Correct
pub mod Plain
pub mod Standing

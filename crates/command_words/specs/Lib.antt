pub mod Numbers
pub mod Lists
pub mod Words
pub mod Modes
pub mod Standing
pub mod Bounded

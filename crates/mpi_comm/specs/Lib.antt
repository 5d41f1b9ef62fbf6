pub mod Communicators
pub mod Splitting
pub mod Making
pub mod Seen
pub mod Numbers
pub mod Asked

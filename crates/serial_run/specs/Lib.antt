pub mod OneRun
pub mod Rounds

pub mod OneRun
pub mod FitAnswers
pub mod Turning

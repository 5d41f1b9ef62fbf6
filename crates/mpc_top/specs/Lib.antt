pub mod Command
pub mod Sources
pub mod RunStatuses
pub mod Answers
pub mod Sent
pub mod Refusals
pub mod Outcomes

pub mod SentLemmas
pub mod Lines
pub mod PlainRows
pub mod RunStatuses
pub mod Reasons
pub mod Answering
pub mod Outcomes

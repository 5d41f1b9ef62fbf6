pub mod FailCounts
pub mod StoreLemmas

mod Counted
pub mod Partners
pub mod Histories
pub mod Changes
pub mod Settled
pub mod Fitting

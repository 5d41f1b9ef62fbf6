pub mod Meetings
pub mod Ways
pub mod Cases
pub mod Turnouts
pub mod Syncs
pub mod Shown
pub mod Numbers
pub mod Kept

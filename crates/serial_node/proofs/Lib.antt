pub mod Laid
pub mod Placed
pub mod Changes
pub mod Visits
pub mod Records
pub mod Leads

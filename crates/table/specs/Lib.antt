pub mod Counts
pub mod Entries
pub mod Laws
pub mod Standing
pub mod Updates

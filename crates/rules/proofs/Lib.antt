pub mod Findings
pub mod Joins
pub mod Members
pub mod Reaching
pub mod Room
pub mod Runs
pub mod Times
pub mod Walks

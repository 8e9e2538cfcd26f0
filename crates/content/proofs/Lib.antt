pub mod Follows
pub mod PartSteps
pub mod ReadSteps
pub mod SlotsRead
pub mod WriteSteps

pub mod Keeps
pub mod Layings
pub mod NewReads
pub mod NewSound
pub mod Surveys

pub mod Commands
pub mod Images
pub mod Summaries

pub mod Counted
pub mod Interleave
pub mod Putting
pub mod Trays
pub mod Windows
pub mod Written

pub mod Counting
pub mod Faults
pub mod Formatting
pub mod NewLayout
pub mod NewVolume
pub mod Sectors
pub mod Surveying

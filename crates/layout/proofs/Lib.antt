pub mod Bits
pub mod Clears
pub mod Lays
pub mod Marks
pub mod Rows
pub mod Searched
pub mod Segments

pub mod Laws
pub mod Parts
pub mod Reading
pub mod Rows
pub mod Slots
pub mod Writing

pub mod Lengths
pub mod Spelling

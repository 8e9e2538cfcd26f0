pub mod Created
pub mod Cuts
pub mod Entries
pub mod Lists
pub mod Padded
pub mod Shown
pub mod Stored

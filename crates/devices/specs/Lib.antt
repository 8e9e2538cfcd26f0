pub mod Flat
pub mod Geometry
pub mod Meaning
pub mod Tray
pub mod Window

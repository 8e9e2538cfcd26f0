pub mod PathChanges
pub mod PathLaws

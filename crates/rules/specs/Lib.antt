pub mod Letters
pub mod Nodes
pub mod Rules
pub mod Walking

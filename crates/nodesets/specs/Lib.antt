pub mod NodeSets
pub mod Members

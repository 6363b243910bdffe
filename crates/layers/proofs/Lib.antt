pub mod Layers
pub mod Permuting
pub mod Renumberings
pub mod Splits

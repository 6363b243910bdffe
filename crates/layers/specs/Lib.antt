pub mod Layers
pub mod Numberings
pub mod Permutations
pub mod Renumberings
pub mod Splits

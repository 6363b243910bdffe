pub mod Made
pub mod Piles

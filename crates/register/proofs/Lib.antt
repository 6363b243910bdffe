mod Downward
mod Founding
mod Latest
pub mod Reaching
mod Singles

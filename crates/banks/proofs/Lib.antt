pub mod Histories
pub mod Shared

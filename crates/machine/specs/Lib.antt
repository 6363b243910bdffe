pub mod Histories
pub mod Lines
pub mod Machines
pub mod Rules
pub mod Runs
pub mod Shown
pub mod Steps
pub mod Wrong

pub mod Banks
pub mod Commands
pub mod Files
pub mod Readings
pub mod Words

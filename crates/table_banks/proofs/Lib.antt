pub mod Boards
pub mod Bottoms
pub mod Noting
pub mod Placing
pub mod Posts
pub mod Tables

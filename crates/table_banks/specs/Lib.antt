pub mod Banks
pub mod Boards
pub mod Bottoms
pub mod Cells
pub mod Notes
pub mod Posts

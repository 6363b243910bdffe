pub mod Founded
pub mod Games
pub mod Laws
pub mod Listings
pub mod Pages
pub mod Players
pub mod Texts
pub mod Words

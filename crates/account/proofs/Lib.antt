mod Founding
mod Lawful
pub mod Listing
mod Listings
mod ListingsCells
mod ListingsFiles
mod ListingsSizes
mod ListingsWords
pub mod Pieces
mod Prefixes

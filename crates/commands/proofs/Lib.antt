pub mod Inputs
pub mod Outcomes
pub mod RoundTrips
pub mod ReadingLaws
pub mod WholeFiles

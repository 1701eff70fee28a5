-- What a reader has to believe of a job's listing.
pub mod Listing

-- What a reader has to believe of document 02's request (m): the small systems by number, and the counts of their codes with the listing.
pub mod Systems
pub mod Counts
pub mod Promises

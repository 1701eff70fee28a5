-- Laws of what specs/ defines, which the functions' proofs cite.
pub mod Patterns
pub mod Texts
pub mod Listings
pub mod AsBefore
pub mod Examples

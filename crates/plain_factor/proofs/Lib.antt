-- Laws that the proofs of this crate share.
pub mod Rows
pub mod Columns
pub mod Verdicts
pub mod Prefixes
pub mod Outcomes

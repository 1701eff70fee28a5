-- Laws of the places that specs/ defines, which the proofs of this crate and of those above it cite.
pub mod Parts
pub mod Columns
pub mod Rows
pub mod Blocks
pub mod Runs
pub mod Bijections
pub mod Rfp
pub mod Bounds
pub mod Examples

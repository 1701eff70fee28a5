-- Laws of what specs/ defines, which the functions' proofs cite.
pub mod Fields
pub mod Formats
pub mod Digits
pub mod JobBytes
pub mod Parts
pub mod Readings
pub mod Canonical
pub mod Truncation
pub mod Examples

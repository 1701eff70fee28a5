-- Laws of moved block columns, which the proofs of this crate cite.
pub mod Places
pub mod Moves
pub mod Blocks
pub mod Results

-- Laws that the proofs of the pipelines share.
pub mod Composition

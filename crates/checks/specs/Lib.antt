-- What a reader has to believe of the checks beside the rules of crate calls.
pub mod Values

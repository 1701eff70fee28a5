-- What a reader has to believe of the variance calls beside the definitions of crate calls.
pub mod Parts

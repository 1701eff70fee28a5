-- What a reader has to believe of texts: how one is written over memory, and the decimal digits of a number.
pub mod Writing
pub mod Decimals

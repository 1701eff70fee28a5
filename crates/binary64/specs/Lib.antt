-- What a reader has to believe of binary64: the kinds of values, which are finite and positive, the square root with its steps, and how a pivot is judged.
pub mod Kinds
pub mod Root
pub mod RootSteps
pub mod Judged

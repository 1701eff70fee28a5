-- What a reader has to believe of the calls, in document 01's order, and then the requests of document 02 that have definitions of their own.
pub mod Sequences
pub mod Triangles
pub mod Arithmetic
pub mod States
pub mod Refusals
pub mod Judgements
pub mod Outcomes
pub mod Calls
pub mod Pipelines
pub mod Variances
pub mod Conversions
pub mod Strikes

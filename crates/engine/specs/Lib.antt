-- What a reader has to believe of the engine: the promises of the functions that run the pipelines.
pub mod Promises

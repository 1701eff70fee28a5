-- What the inner functions of the blocked factor promise. Its own promise is that of crate calls.
pub mod BlockColumns
pub mod BlockStages
pub mod BlockSteps
pub mod Runs

-- What a reader has to believe of a job's bytes: how they are read, how they are written, and what rewriting a stored job gives.
pub mod Reading
pub mod Format
pub mod Writing
pub mod Rewriting

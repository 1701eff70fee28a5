-- What the inner functions of the plain factor promise. Its own promise is that of crate calls.
pub mod Steps

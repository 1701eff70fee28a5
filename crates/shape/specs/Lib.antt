-- What a reader has to believe of a shape: its bounds, and where an entry is kept.
pub mod Bounds
pub mod Places
pub mod Layouts

-- What the functions inside the converters promise; the converters themselves are defined in `calls`.
pub mod Halves

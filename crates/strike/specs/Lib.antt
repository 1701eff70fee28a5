-- What the functions inside `strike` promise; the call itself is defined in `calls`.
pub mod Rows

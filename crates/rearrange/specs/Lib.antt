-- What the functions inside the rearrangers promise; the rearrangers themselves are defined in `calls`.
pub mod Moves

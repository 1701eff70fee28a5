-- What the loops of the two solvers promise.
pub mod Substitution
pub mod Solving
pub mod Parts

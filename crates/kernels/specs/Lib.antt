-- What the loops over values promise.
pub mod Kernels
pub mod Transfers

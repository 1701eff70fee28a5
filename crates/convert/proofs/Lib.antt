-- Laws of the two halves of the columns, and of what a converter returns.
pub mod Halves
pub mod Results

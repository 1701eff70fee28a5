-- Laws of the variance calls: which parts of a matrix rule 7 judges, the right-hand side that is made, and the outcome.
pub mod ColumnParts
pub mod Outcomes

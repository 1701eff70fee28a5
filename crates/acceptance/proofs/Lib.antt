-- Laws of what specs/ defines, which the functions' proofs cite.
pub mod Systems
pub mod Tallies
pub mod Lines
pub mod Runs
pub mod Codes
pub mod Outcomes
pub mod Examples

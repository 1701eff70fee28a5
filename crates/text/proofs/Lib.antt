-- Laws of what specs/ defines, and of lists, which the functions' proofs cite; and what tables of examples are written with.
pub mod Lists
pub mod Texts
pub mod Decimals
pub mod Comparisons

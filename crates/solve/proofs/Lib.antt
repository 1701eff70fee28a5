-- Laws of the substitutions, from rows and places to whole right-hand sides, and of the solvers' outcomes.
pub mod Substitution
pub mod Rows
pub mod Triangles
pub mod Factors
pub mod PackedTurns
pub mod BlockPlaces
pub mod BlockColumns
pub mod Apart
pub mod BlockTurns
pub mod RunTurns
pub mod RightSides
pub mod Outcomes

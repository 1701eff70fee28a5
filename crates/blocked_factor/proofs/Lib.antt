-- Laws that the proofs of this crate share.
pub mod BlockRows
pub mod Panels
pub mod RunTiles
pub mod RunPanels
pub mod Stages
pub mod Finishing
pub mod BlockVerdicts
pub mod EarlierBlocks
pub mod BlockParts
pub mod BlockLoop
pub mod BlockOutcomes
pub mod SingleColumns

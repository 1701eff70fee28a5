-- Laws of parts of lists, of loops that store, of products subtracted one by one, of tiles and grids, and of transfers of entries.
pub mod Grids
pub mod Loops
pub mod Parts
pub mod Products
pub mod Runs
pub mod Transfers

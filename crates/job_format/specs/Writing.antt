-- Text written over memory at a position: the definitions of crate text.
pub use Rattle.text.specs.Writing.{overwrite, Written}

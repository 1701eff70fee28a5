-- `shape::Shape::rfp_columns` meets its contract. Assumes nothing.
use mathlib.Core.Path.{refl}
use Rattle.shape.specs.Places.{rfp_columns}
use Rattle.shape.proofs.Shape.rfp_columns.Goals as goal

pub returns : goal.returns
unfolding rfp_columns
returns c = refl

-- `shape::Shape::rfp_rows` meets its contract. Assumes nothing.
use mathlib.Core.Path.{refl}
use Rattle.shape.specs.Places.{rfp_rows}
use Rattle.shape.proofs.Shape.rfp_rows.Goals as goal

pub returns : goal.returns
unfolding rfp_rows
returns c = refl

-- `shape::Shape::block_width` meets its contract: the width is the lesser of the two numbers. Assumes nothing.
use Rattle.shape.specs.Places.{width}
use Rattle.shape.proofs.Shape.block_width.Goals as goal

pub returns : goal.returns
unfolding width
returns c = c.min.ensures

-- `rearrange::move_blocks` meets its contract. The loop's invariant: the columns before c, the first of a block column, are moved, and the places
-- from there on as they were. The measure is the number of columns left. Assumes nothing.
use mathlib.Core.Path.{◌≡◌}
use Prim.Native.Nat.{◌-◌}
use Rattle.shape.specs.Places.{block_of}
use Rattle.rearrange.proofs.Blocks.{MovedBefore}
use Rattle.rearrange.proofs.move_blocks.Given as goal

abbrev pub invariant-loop-c : goal.invariant-loop-c
invariant-loop-c l =
    (block_of l.shape.block l.c ≡ l.c)
    × MovedBefore l.to l.shape.order l.shape.block l.c l.initial.matrix l.matrix

abbrev pub decreases-loop-c : goal.decreases-loop-c
decreases-loop-c l = l.shape.order - l.c

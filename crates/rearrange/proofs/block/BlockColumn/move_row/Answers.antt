-- `rearrange::block::BlockColumn::move_row` meets its contract. Assumes nothing.
use mathlib.Core.Path.{◌≡◌, refl}
use Prim.Native.Nat.{◌+◌, ◌<◌}
use native.Mathlib.Omega.{arith}
use lib.ListN.{get_or, set}
use lib.Ieee.{nan}
use Rattle.shape.specs.Places.{block_start, place_in_block}
use Rattle.shape.proofs.Columns.{packed_place_next_column}
use Rattle.shape.proofs.Rows.{place_in_block_row}
use Rattle.calls.specs.declared.Layout.TheVariants.{Packed, Blocked}
use Rattle.kernels.proofs.Transfers.{moved_no_columns, join_columns}
use Rattle.rearrange.specs.Moves.{other, place_in_part, Moved}
use Rattle.rearrange.proofs.Places.{place_in_part_lt}
use Rattle.rearrange.proofs.Moves.{places_inside, to_diagonal, moved_entry}
use Rattle.rearrange.proofs.block.BlockColumn.move_row.Goals as goal
use Rattle.rearrange.proofs.block.BlockColumn.move_row.Goals.{After-ends-from}

pub loop-s-init : goal.loop-s-init
loop-s-init c = (omega arith, omega arith, c.packed_place-packed.ensures, moved_no_columns)

-- in a turn the places are those of entry (r, s), which lie in the block column
places : (c : After-ends-from) →
    let self = c.args.self in
    (c.ends-from.result.0 ≡ place_in_part (other self.to) self.part.order self.part.block c.args.r c.loop-s.s)
    × (c.ends-from.result.1 ≡ place_in_part self.to self.part.order self.part.block c.args.r c.loop-s.s)
places c =
    let at : c.place_in_block-blocked.result + c.loop-s.s ≡ place_in_block c.args.self.part.block c.args.r c.loop-s.s =
    omega (arith, place_in_block_row c.args.self.part.block c.args.r 0, place_in_block_row c.args.self.part.block c.args.r c.loop-s.s) in
    rw (c.loop-s.invariant.2, at) at c.ends-from.ensures

inside : (c : After-ends-from) →
    let self = c.args.self in
    (c.ends-from.result.0 < block_start self.part.order self.part.block) × (c.ends-from.result.1 < block_start self.part.order self.part.block)
inside c =
    let self = c.args.self in
    places_inside self.to {r = c.args.r} {s = c.loop-s.s} self.columns (omega arith) (places c)

pub offset_bounds-source-from : goal.offset_bounds-source-from
offset_bounds-source-from c = omega (arith, inside (goal.at.offset_bounds-source-from c).After-ends-from)

pub bounds-source-from : goal.bounds-source-from
bounds-source-from c = omega (arith, inside (goal.at.bounds-source-from c).After-ends-from)

pub offset_bounds-target-to : goal.offset_bounds-target-to
offset_bounds-target-to c = omega (arith, inside (goal.at.offset_bounds-target-to c).After-ends-from)

pub bounds-target-to : goal.bounds-target-to
bounds-target-to c = omega (arith, inside (goal.at.bounds-target-to c).After-ends-from)

-- the entry that is moved in a turn
turn : (c : After-ends-from) →
    Moved c.args.self.to c.args.self.part.order c.args.self.part.block c.args.r (c.args.r + 1) 0 (c.loop-s.s + 1) c.args.source.now c.args.target.now
    (set c.loop-s.target c.ends-from.result.1 (get_or c.args.source.now c.ends-from.result.0 nan))
turn c =
    let self = c.args.self in
    join_columns c.loop-s.invariant.3
    (moved_entry self.to self.part.order self.part.block (omega arith) (omega arith) self.columns (omega (arith, c.requires.held.1)) (places c).0 (places c).1
    refl)

pub overflow_add-blocked : goal.overflow_add-blocked
overflow_add-blocked c =
    let self = c.args.self in
    omega (
      arith,
      place_in_block_row self.part.block c.args.r 0,
      place_in_block_row self.part.block c.args.r c.loop-s.s,
      place_in_part_lt Blocked self.part.order self.part.block c.args.r c.loop-s.s self.columns (omega arith) (omega arith),
    )

pub overflow_add-packed : goal.overflow_add-packed
overflow_add-packed c =
    let self = c.args.self in
    omega (arith, place_in_part_lt Packed self.part.order self.part.block c.args.r c.loop-s.s self.columns (omega arith) (omega arith))

pub loop-s-preserved : goal.loop-s-preserved
loop-s-preserved c = (
  omega arith,
  omega arith,
  omega (arith, packed_place_next_column c.args.self.part.order c.args.r c.loop-s.s (omega arith)),
  turn (goal.at.loop-s-preserved c).After-ends-from,
)

pub returns : goal.returns
returns c =
    let self = c.args.self in
    to_diagonal self.to self.part.order self.part.block (omega arith) c.loop-s.invariant.3

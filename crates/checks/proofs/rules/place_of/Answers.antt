-- `checks::rules::place_of` meets its contract, by cases on the layout. Assumes nothing.
use Rattle.calls.specs.Triangles.{place_of}
use Rattle.checks.proofs.rules.place_of.Goals as goal

pub blocked_place-requires : goal.blocked_place-requires
blocked_place-requires c =
    record { order_le_max_order = c.requires.order_le_max_order; block_nonzero = c.requires.block_nonzero (rw c.in-Blocked.is tt); entry = c.requires.entry }

pub returns-in-Packed : goal.returns-in-Packed
unfolding place_of
returns-in-Packed c = rw c.in-Packed.is c.packed_place.ensures

pub returns-in-Blocked : goal.returns-in-Blocked
unfolding place_of
returns-in-Blocked c = rw c.in-Blocked.is c.blocked_place.ensures

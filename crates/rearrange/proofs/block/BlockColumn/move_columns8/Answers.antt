-- `rearrange::block::BlockColumn::move_columns8` meets its contract. The packed places of row r are r − first behind those of row first. Assumes nothing.
use mathlib.Core.Path.{◌≡◌, ap, ◌∙◌}
use Prim.Native.Nat.{ℕ, ◌+◌, ◌-◌, ◌≤◌, ◌<◌}
use native.Mathlib.Omega.{arith}
use mathlib.Core.List.{List}
use lib.ListN.{get_or}
use lib.Ieee.{nan}
use Rattle.shape.specs.Places.{packed_place, block_start, place_in_block}
use Rattle.shape.proofs.Columns.{packed_place_rows}
use Rattle.shape.proofs.Rows.{place_in_block_row, place_in_block_next_row_under}
use Rattle.calls.specs.declared.Layout.TheVariants.{Packed, Blocked}
use Rattle.kernels.proofs.Transfers.{join_rows}
use Rattle.rearrange.proofs.Places.{place_in_part_lt}
use Rattle.rearrange.proofs.Moves.{moved_columns}
use Rattle.rearrange.proofs.block.BlockColumn.move_columns8.Goals as goal

-- in a turn the eight places lie in the block column
packed_at : (n first r s : ℕ) (places : List ℕ)
    → first ≤ r
    → ((k : ℕ) → k < 8 → get_or places k 0 ≡ packed_place n first (s + k))
    → (k : ℕ)
    → k < 8
    → get_or places k 0 + (r - first) ≡ packed_place n r (s + k)
packed_at n first r s places low at k h = omega (arith, at k h, packed_place_rows n first r (s + k) low)

inside : (n w r s : ℕ) → w ≤ n → r < n → w ≤ r → s + 8 ≤ w → place_in_block w r s + 8 ≤ block_start n w
inside n w r s width low under few =
    omega (
      arith,
      place_in_block_row w r s,
      place_in_block_row w r (s + 7),
      place_in_part_lt Blocked n w r (s + 7) (omega arith) (omega arith) (omega arith),
    )

pub gather-values-requires : goal.gather-values-requires
gather-values-requires c =
    let a = c.args in
    let n : ℕ = a.self.part.order in
    let r = c.loop-r.r in (
      omega arith,
      (
        omega arith,
        λ k h.
            omega (
              arith,
              packed_at n a.first r a.s c.packed_places-places.result (omega arith) c.packed_places-places.ensures k h,
              place_in_part_lt Packed n a.self.part.block r (a.s + k) (omega arith) (omega arith) (omega arith),
            ),
      ),
    )

pub store-requires : goal.store-requires
store-requires c = omega (arith, inside c.args.self.part.order c.args.self.part.block c.loop-r.r c.args.s (omega arith) (omega arith) (omega arith) (omega arith))

pub overflow_add-q : goal.overflow_add-q
overflow_add-q c = omega (arith, inside c.args.self.part.order c.args.self.part.block c.loop-r.r c.args.s (omega arith) (omega arith) (omega arith) (omega arith))

pub loop-r-preserved : goal.loop-r-preserved
loop-r-preserved c =
    let args = c.args in
    let at = packed_at args.self.part.order args.first c.loop-r.r args.s c.packed_places-places.result (omega arith) c.packed_places-places.ensures in (
      omega (arith, c.store.auto),
      omega arith,
      omega arith,
      omega (arith, place_in_block_next_row_under args.self.part.block c.loop-r.r args.s (omega arith)),
      join_rows c.loop-r.invariant.4
          (moved_columns _ c.requires.to_blocked _ _ _ _ 8 _ _ _ _ c.gather-values.result (omega arith) (omega arith) (omega arith) c.loop-r.invariant.3
          (λ k h.
          c.gather-values.ensures k h ∙ ap (λ (p : ℕ). get_or args.source.now p nan) (at k h))
          c.store.ensures),
    )

-- `solve::blocked::Blocked::block_column` meets its contract. Assumes nothing.
use Prim.Native.Nat.{ℕ, ◌+◌, ◌-◌, ◌≤◌, ◌<◌}
use native.Mathlib.Omega.{arith}
use mathlib.Core.Path.{◌≡◌, refl, ap, ◌∙◌}
use lib.ListN.{drop, length-take, length-drop}
use Rattle.std.proofs.lemmas.List.{take_rest}
use Rattle.shape.specs.Places.{block_of, block_start, width}
use Rattle.shape.proofs.Blocks.{block_of_le, block_of_block, column_in_width}
use Rattle.solve.specs.Parts.{EndsBlock}
use Rattle.solve.proofs.BlockPlaces.{start_room}
use Rattle.solve.proofs.BlockTurns.{block_fits, block_rows_room}
use Rattle.solve.proofs.blocked.Blocked.block_column.Goals as goal

-- the block column that holds column k begins with it or before, and ends with the rows or before
module _ (n b rows k first w : ℕ) (pos : 0 < b) (le : rows ≤ n) (inside : k < rows) (ends : EndsBlock n b rows) (start : first ≡ block_of b k)
    (wide : w ≡ width n b first) where
  holds : (first ≤ k) × (k - first < w)
  holds =
      let whole : w ≡ width n b (block_of b k) = wide ∙ ap (width n b) start in
      (omega (arith, block_of_le b k), omega (arith, block_of_le b k, whole, column_in_width n b k pos (omega arith)))

  last : first + w ≤ rows
  last =
      let whole : w ≡ width n b (block_of b k) = wide ∙ ap (width n b) start in
      omega (arith, whole, block_fits n b rows (block_of b k) le ends (block_of_block b k pos) (omega (arith, block_of_le b k)))

pub block_start-at-requires-clause-c_le_order : goal.block_start-at-requires-clause-c_le_order
block_start-at-requires-clause-c_le_order c = omega (arith, block_of_le c.args.self.now.shape.block c.args.k)

pub overflow_sub-skip : goal.overflow_sub-skip
overflow_sub-skip c = omega (arith, block_of_le c.args.self.now.shape.block c.args.k)

pub block_width-requires : goal.block_width-requires
block_width-requires c = omega (arith, block_of_le c.args.self.now.shape.block c.args.k)

pub overflow_sub-result-2 : goal.overflow_sub-result-2
overflow_sub-result-2 c =
    let f = c.args.self.now in
    omega (
      arith,
      holds f.shape.order f.shape.block c.args.rows c.args.k c.block_of-c.result c.block_width.result f.block c.requires.1 c.requires.0 c.requires.2
          c.block_of-c.ensures c.block_width.ensures,
    )

-- it begins in the matrix
pub offset_bounds-self-at : goal.offset_bounds-self-at
offset_bounds-self-at c =
    let f = c.args.self.now in
    omega (
      arith,
      start_room f.shape.order c.block_of-c.result c.block_start-at.result (omega arith) (omega (arith, block_of_le f.shape.block c.args.k))
          c.block_start-at.ensures,
    )

pub slice_bounds-result-count : goal.slice_bounds-result-count
slice_bounds-result-count c =
    let f = c.args.self.now in
    omega (
      arith,
      start_room f.shape.order c.block_of-c.result c.block_start-at.result (omega arith) (omega (arith, block_of_le f.shape.block c.args.k))
          c.block_start-at.ensures,
    )

pub slice_bounds-result-start : goal.slice_bounds-result-start
slice_bounds-result-start c =
    let f = c.args.self.now in
    omega (
      arith,
      start_room f.shape.order c.block_of-c.result c.block_start-at.result (omega arith) (omega (arith, block_of_le f.shape.block c.args.k))
          c.block_start-at.ensures,
    )

pub invariant_of-result : goal.invariant_of-result
invariant_of-result c =
    let f = c.args.self.now in
    let n = f.shape.order in
    let rows = c.args.rows in
    let first = c.block_of-c.result in
    let w = c.block_width.result in
    let held = holds n f.shape.block rows c.args.k first w f.block c.requires.1 c.requires.0 c.requires.2 c.block_of-c.ensures c.block_width.ensures in
    let end = last n f.shape.block rows c.args.k first w f.block c.requires.1 c.requires.0 c.requires.2 c.block_of-c.ensures c.block_width.ensures in
    let all : c.args.k - first + (rows - c.args.k) ≡ rows - first = omega (arith, held) in
    let whole : c.args.k - first + (w - (c.args.k - first)) ≡ w = omega (arith, held) in
    record {
      order = omega (arith, held);
      columns = omega (arith, held);
      fits = omega (arith, held, end);
      values = simp (all, whole, length-take, length-drop) (omega
          (arith, c.block_start-at.ensures, block_rows_room n rows first w c.requires.1 end, f.values));
    }

pub returns : goal.returns
returns c =
    let f = c.args.self.now in
    let n = f.shape.order in
    let first = c.block_of-c.result in
    let w = c.block_width.result in
    let held = holds n f.shape.block c.args.rows c.args.k first w f.block c.requires.1 c.requires.0 c.requires.2 c.block_of-c.ensures c.block_width.ensures in
    record {
      skip = omega (arith, c.block_of-c.ensures, held);
      h = refl;
      w = omega (arith, held, c.block_width.ensures ∙ ap (width n f.shape.block) c.block_of-c.ensures);
      part = take_rest f.matrix.now c.block_start-at.result ∙ ap (λ a. drop a f.matrix.now) (c.block_start-at.ensures ∙ ap (block_start n) c.block_of-c.ensures);
    }

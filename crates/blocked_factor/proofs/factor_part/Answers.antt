-- `blocked_factor::factor_part` meets its contract. Assumes nothing.
use native.Mathlib.Omega.{arith}
use Prim.Native.Nat.{ℕ, ◌+◌, ◌-◌, ◌≤◌}
use mathlib.Core.Path.{◌≡◌}
use lib.ListN.{length}
use lib.Ieee.{nan}
use Rattle.shape.specs.Places.{block_start, block_work, width}
use Rattle.kernels.proofs.Parts.{length_part}
use Rattle.blocked_factor.specs.BlockColumns.{row_start}
use Rattle.blocked_factor.specs.BlockSteps.{BlockAt}
use Rattle.blocked_factor.proofs.EarlierBlocks.{block_room}
use Rattle.blocked_factor.proofs.Finishing.{rest_replaced, lent_same, same_join}
use Rattle.blocked_factor.proofs.BlockParts.{size_le, spare_two, block_factored}
use Rattle.blocked_factor.proofs.factor_part.Goals as goal

-- the saved entry values are the front of the work memory
front :
    {n b c len size w h work_length : ℕ} → BlockAt n b c len → work_length ≡ block_work n b → w ≡ width n b c → h ≡ n - c → size ≡ row_start w h →
    (size ≡ row_start (width n b c) (n - c)) × (size ≤ work_length)
front here full wide tall e =
    let size = rw (wide, tall) at e in
    (size, omega (arith, size, full, size_le here))

pub offset_bounds-work-size : goal.offset_bounds-work-size
offset_bounds-work-size c =
    omega (arith, front c.requires.block_at c.requires.work_len c.new-column.ensures.2 c.new-column.ensures.3 c.size.ensures, c.well_formed)

pub slice_bounds-update_by_runs-count : goal.slice_bounds-update_by_runs-count
slice_bounds-update_by_runs-count c =
    omega (arith, front c.requires.block_at c.requires.work_len c.new-column.ensures.2 c.new-column.ensures.3 c.size.ensures)

pub slice_bounds-update_by_runs-start : goal.slice_bounds-update_by_runs-start
slice_bounds-update_by_runs-start c =
    omega (arith, front c.requires.block_at c.requires.work_len c.new-column.ensures.2 c.new-column.ensures.3 c.size.ensures)

pub update_by_runs-requires : goal.update_by_runs-requires
update_by_runs-requires c =
    let work = c.args.work.now in
    let size = c.size.result in
    let front = front c.requires.block_at c.requires.work_len c.new-column.ensures.2 c.new-column.ensures.3 c.size.ensures in record {
      block_at = c.requires.block_at;
      block_in_bounds = λ later.
          omega (
            arith,
            length_part nan size (length work - size) work (omega (arith, front.1)),
            front.0,
            c.requires.work_len,
            spare_two c.requires.block_at later,
          );
    }

-- and the block column lies in the matrix memory
pub offset_bounds-m-column : goal.offset_bounds-m-column
offset_bounds-m-column c =
    omega (arith, c.new-column.ensures.1, block_room c.requires.block_at, c.update_by_runs.ensures.kept, c.well_formed)

pub slice_bounds-factor-count : goal.slice_bounds-factor-count
slice_bounds-factor-count c =
    omega (arith, c.new-column.ensures.1, block_room c.requires.block_at, c.update_by_runs.ensures.kept)

pub slice_bounds-factor-start : goal.slice_bounds-factor-start
slice_bounds-factor-start c =
    omega (arith, c.new-column.ensures.1, block_room c.requires.block_at, c.update_by_runs.ensures.kept)

pub factor-requires : goal.factor-requires
factor-requires c =
    let front = front c.requires.block_at c.requires.work_len c.new-column.ensures.2 c.new-column.ensures.3 c.size.ensures in
    let lent = rest_replaced c.size.result c.args.work.now c.update_by_runs.new.spare front.1 c.update_by_runs.auto.spare in
    let a = c.args in
    let m = c.update_by_runs.new.m in
    let start = block_start a.shape.order a.c in
    let inside : start + row_start (width a.shape.order a.shape.block a.c) (a.shape.order - a.c) ≤ length m =
    omega (arith, block_room c.requires.block_at, c.update_by_runs.ensures.kept)
    in
    rw (c.new-column.ensures.1, c.new-column.ensures.2, c.new-column.ensures.3)
    (record { room = (omega (arith, inside, length_part nan start (length m - start) m (omega arith)), omega (arith, front, lent.size)) })

pub returns : goal.returns
returns c =
    let front = front c.requires.block_at c.requires.work_len c.new-column.ensures.2 c.new-column.ensures.3 c.size.ensures in
    let lent = rest_replaced c.size.result c.args.work.now c.update_by_runs.new.spare front.1 c.update_by_runs.auto.spare in
    let a = c.args in
    let m = c.update_by_runs.new.m in
    let start = block_start a.shape.order a.c in
    let inside : start + row_start (width a.shape.order a.shape.block a.c) (a.shape.order - a.c) ≤ length m =
    omega (arith, block_room c.requires.block_at, c.update_by_runs.ensures.kept)
    in
    let at = c.new-column.ensures.1 in
    let factored = rw (c.new-column.ensures.0, at, c.new-column.ensures.2, c.new-column.ensures.3) at c.factor.ensures in
    let same = lent_same front.0 lent in
    rw at
    (record {
      block_factored =
          block_factored c.requires.block_at same c.update_by_runs.ensures factored.block_column_factored
          (rest_replaced start m c.factor.new.part (omega arith) factored.block_column_factored.kept);
      same_to = same_join same factored.same_to;
    })

-- `rearrange::outcome` meets its contract: a refusal leaves all memory, and what accepted checks say of the sizes is what the moves require.
-- Assumes nothing.
use mathlib.Core.Path.{sym, ap, ◌∙◌}
use Prim.Native.Nat.{ℕ}
use native.Mathlib.Omega.{arith}
use lib.ListN.{length, replicate}
use lib.Seq.{length-take-le}
use lib.Ieee.{of_bits}
use Rattle.binary64.specs.Kinds.{zero64}
use Rattle.calls.proofs.OutcomeLaws.{passed_on}
use Rattle.calls.proofs.CheckLaws.{RearrangerAccepted}
use Rattle.rearrange.specs.Moves.{other}
use Rattle.rearrange.proofs.Results.{cleared, accepted_sizes, refused_done, accepted_done}
use Rattle.rearrange.proofs.outcome.Goals as goal
use Rattle.rearrange.proofs.outcome.Goals.{In_ok-check_rearranger}

pub returns-in_err-check_rearranger : goal.returns-in_err-check_rearranger
returns-in_err-check_rearranger c =
    let a = c.args in
    rw (passed_on c.from_residual.result _ c.from_residual.ensures.1)
    (refused_done (other a.to) a.to a.shape a.matrix.now a.work.now _ (rw c.other.ensures at c.in_err-check_rearranger.ensures))

-- past the checks
known : (c : In_ok-check_rearranger) → RearrangerAccepted (other c.args.to) c.args.to c.args.shape (length c.args.matrix.now) (length c.args.work.now)
known c = accepted_sizes (other c.args.to) c.args.to c.args.shape c.args.matrix.now c.args.work.now (rw c.other.ensures at c.in_ok-check_rearranger.ensures)

pub block_work-needed-requires : goal.block_work-needed-requires
block_work-needed-requires c = (known (goal.at.block_work-needed-requires c).In_ok-check_rearranger).order

pub slice_bounds-lent-end : goal.slice_bounds-lent-end
slice_bounds-lent-end c =
    let fits = known (goal.at.slice_bounds-lent-end c).In_ok-check_rearranger in
    omega (arith, c.block_work-needed.ensures, fits.work)

pub slice_bounds-lent-end-2 : goal.slice_bounds-lent-end-2
slice_bounds-lent-end-2 c =
    let fits = known (goal.at.slice_bounds-lent-end-2 c).In_ok-check_rearranger in
    sym (length-take-le _ _ (omega (arith, c.block_work-needed.ensures, fits.work)))

pub move_blocks-requires : goal.move_blocks-requires
move_blocks-requires c =
    let fits = known (goal.at.move_blocks-requires c).In_ok-check_rearranger in
    let lent = length-take-le c.block_work-needed.result c.args.work.now (omega (arith, c.block_work-needed.ensures, fits.work)) in record {
      order_le_max_order = (fits.order, fits.block_low tt, fits.block_high tt);
      matrix_len = fits.matrix;
      block_in_bounds = omega (arith, c.block_work-needed.ensures, lent);
    }

pub returns : goal.returns
unfolding of_bits
returns c =
    let a = c.args in
    let fits = known (goal.at.returns c).In_ok-check_rearranger in
    accepted_done (other a.to) a.to a.shape a.matrix.now a.work.now (rw c.other.ensures at c.in_ok-check_rearranger.ensures) c.move_blocks.ensures
    (cleared _ c.block_work-needed.result a.work.now _ c.block_work-needed.ensures (omega (arith, c.block_work-needed.ensures, fits.work))
    (c.clear.ensures ∙ ap (λ (k : ℕ). replicate k zero64) c.move_blocks.auto.work))

-- `job::listing::put_result` meets its contract. The job's line, the values' lines where the result is accepted, and the last line. Assumes nothing.
use Prim.Native.Nat.{◌*◌}
use native.Mathlib.Omega.{arith}
use mathlib.Core.Path.{refl}
use mathlib.Core.List.{[], ◌∷◌}
use lib.ListN.{length, length-append}
use Rattle.job.specs.Listing.{job_line, end_line, solution_lines}
use Rattle.text.proofs.Texts.{puts_then, puts_as, room_left}
use Rattle.job.proofs.Texts.{solution_put, length_value_lines, length_solution_lines, refused_lines, accepted_lines, length_refused, length_accepted, length_first}
use Rattle.job.proofs.listing.put_result.Goals as goal
use Rattle.job.proofs.listing.put_result.Goals.{then-verdict-eq0, else-verdict-eq0}

pub put_sizes-requires : goal.put_sizes-requires
put_sizes-requires c = let job = c.args.job.now in omega (arith, length_first job.matrix.now job.rhs.now job.sizes c.args.verdict)

pub put_values-requires : goal.put_values-requires
put_values-requires c =
    let job = c.args.job.now in
    let all = length_accepted job.matrix.now job.rhs.now job.sizes c.args.verdict c.if-verdict-eq0.true in
    let values = length_solution_lines job.matrix.now job.rhs.now in
    room_left (19 * length job.matrix.now) (omega (arith, all, values)) c.put_sizes.ensures

pub put_values-requires-then-verdict-eq0 : goal.put_values-requires-then-verdict-eq0
put_values-requires-then-verdict-eq0 c =
    let job = c.args.job.now in
    let all = length_accepted job.matrix.now job.rhs.now job.sizes c.args.verdict c.if-verdict-eq0.true in
    let values = length_solution_lines job.matrix.now job.rhs.now in
    let first = length_value_lines (70 ∷ 32 ∷ []) job.matrix.now refl in
    let room = room_left (length (solution_lines job.matrix.now job.rhs.now)) (omega (arith, all)) c.put_sizes.ensures in
    room_left (19 * length job.rhs.now) (omega (arith, values, first)) c.put_values.ensures

pub put_end-requires : goal.put_end-requires
put_end-requires c =
    let job = c.args.job.now in
    let line = job_line job.sizes.order job.sizes.block job.sizes.count in
    let values = solution_lines job.matrix.now job.rhs.now in
    let last = length (end_line c.args.verdict.code c.args.verdict.place) in
    elim c.if-verdict-eq0.branch [
      | then-verdict-eq0 w ↦
          let all = length_accepted job.matrix.now job.rhs.now job.sizes c.args.verdict w.if-verdict-eq0.true in
          let room = room_left (length values) (omega (arith, all)) c.put_sizes.ensures in
          let front = puts_then (omega (arith, all)) c.put_sizes.ensures (solution_put job.matrix.now job.rhs.now room w.put_values.ensures w.put_values-then-verdict-eq0.ensures) in
          rw w.writer-is (room_left last (omega (arith, all, length-append line values)) front)
      | else-verdict-eq0 w ↦
          rw w.writer-is (room_left last (omega (arith, length_refused job.matrix.now job.rhs.now job.sizes c.args.verdict w.if-verdict-eq0.false)) c.put_sizes.ensures)
    ]

pub returns : goal.returns
returns c =
    let job = c.args.job.now in
    let line = job_line job.sizes.order job.sizes.block job.sizes.count in
    let values = solution_lines job.matrix.now job.rhs.now in
    elim c.if-verdict-eq0.branch [
      | then-verdict-eq0 w ↦
          let all = length_accepted job.matrix.now job.rhs.now job.sizes c.args.verdict w.if-verdict-eq0.true in
          let room = room_left (length values) (omega (arith, all)) c.put_sizes.ensures in
          let front = puts_then (omega (arith, all)) c.put_sizes.ensures (solution_put job.matrix.now job.rhs.now room w.put_values.ensures w.put_values-then-verdict-eq0.ensures) in
          puts_as (accepted_lines job.matrix.now job.rhs.now job.sizes c.args.verdict w.if-verdict-eq0.true)
          (puts_then (omega (arith, all, length-append line values)) front (rw w.writer-is at c.put_end.ensures))
      | else-verdict-eq0 w ↦
          puts_as (refused_lines job.matrix.now job.rhs.now job.sizes c.args.verdict w.if-verdict-eq0.false)
          (puts_then (omega (arith, length_first job.matrix.now job.rhs.now job.sizes c.args.verdict)) c.put_sizes.ensures (rw w.writer-is at c.put_end.ensures))
    ]

-- `job_format::writer::put_job` meets its contract. The sizes, the map, the entries and the right-hand sides one after another, which have room. Assumes nothing.
use Prim.Native.Nat.{◌+◌, ◌*◌, ◌/◌}
use native.Mathlib.Omega.{arith}
use lib.ListN.{length}
use Rattle.job_format.specs.Rewriting.{job_bytes}
use Rattle.text.proofs.Texts.{puts_then, room_left}
use Rattle.job_format.proofs.JobBytes.{length_sizes, entries_few, values_few, length_front, length_mapped}
use Rattle.job_format.proofs.writer.put_job.Goals as goal

pub put_map-requires : goal.put_map-requires
put_map-requires c =
    let job = c.args.job.now in
    let few = entries_few job.sizes job.matrix.now job.rhs.now c.requires.in_bounds job.matrix_len job.rhs_len in
    room_left ((length job.matrix.now + 7) / 8) (omega (arith, length_sizes job.sizes, few)) c.put_sizes.ensures

pub put_values-requires : goal.put_values-requires
put_values-requires c =
    let job = c.args.job.now in
    let few = entries_few job.sizes job.matrix.now job.rhs.now c.requires.in_bounds job.matrix_len job.rhs_len in
    let front = length_front job.sizes job.matrix.now job.rhs.now c.requires.in_bounds job.matrix_len job.rhs_len in
    room_left (8 * length job.matrix.now) (omega (arith, front, few)) (puts_then (omega (arith, length_sizes job.sizes)) c.put_sizes.ensures c.put_map.ensures)

pub put_values-requires-2 : goal.put_values-requires-2
put_values-requires-2 c =
    let job = c.args.job.now in
    let few = values_few job.sizes job.matrix.now job.rhs.now c.requires.in_bounds job.matrix_len job.rhs_len in
    let front = length_front job.sizes job.matrix.now job.rhs.now c.requires.in_bounds job.matrix_len job.rhs_len in
    let mapped = length_mapped job.sizes job.matrix.now job.rhs.now c.requires.in_bounds job.matrix_len job.rhs_len in
    room_left (8 * length job.rhs.now) (omega (arith, mapped, few))
    (puts_then (omega (arith, front)) (puts_then (omega (arith, length_sizes job.sizes)) c.put_sizes.ensures c.put_map.ensures) c.put_values.ensures)

pub returns : goal.returns
unfolding job_bytes
returns c =
    let job = c.args.job.now in
    let front = length_front job.sizes job.matrix.now job.rhs.now c.requires.in_bounds job.matrix_len job.rhs_len in
    let mapped = length_mapped job.sizes job.matrix.now job.rhs.now c.requires.in_bounds job.matrix_len job.rhs_len in
    puts_then (omega (arith, mapped))
    (puts_then (omega (arith, front)) (puts_then (omega (arith, length_sizes job.sizes)) c.put_sizes.ensures c.put_map.ensures) c.put_values.ensures) c.put_values-2.ensures

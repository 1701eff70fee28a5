-- `job_format::writer::put_map` meets its contract. The loop's invariant: the first i bytes of the map are written. Assumes nothing.
use native.Mathlib.Omega.{arith}
use Rattle.calls.proofs.Sequences.{length_tabulate}
use Rattle.text.proofs.Texts.{puts_as, room_left, tabulated_none, tabulated_turn}
use Rattle.job_format.proofs.JobBytes.{map_byte, map_all}
use Rattle.job_format.proofs.writer.put_map.Goals as goal

pub loop-i-init : goal.loop-i-init
loop-i-init c = tabulated_none (map_byte c.args.matrix.now) c.args.writer.now

pub put_byte-requires : goal.put_byte-requires
put_byte-requires c =
    let room = room_left 1 (omega (arith, length_tabulate (map_byte c.args.matrix.now) c.loop-i.i)) c.loop-i.invariant in
    omega arith

pub loop-i-preserved : goal.loop-i-preserved
loop-i-preserved c =
    tabulated_turn (map_byte c.args.matrix.now) c.loop-i.i c.map_byte.result (omega arith) c.loop-i.invariant c.map_byte.ensures c.put_byte.ensures

pub returns : goal.returns
returns c = puts_as (map_all c.args.matrix.now c.loop-i.i (omega arith)) c.loop-i.invariant

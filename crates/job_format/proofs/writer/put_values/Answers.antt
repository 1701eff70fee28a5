-- `job_format::writer::put_values` meets its contract. The loop's invariant: the bytes of the first values are written. Assumes nothing.
use native.Mathlib.Omega.{arith}
use mathlib.Core.Path.{sym, ◌∙◌}
use lib.ListN.{get_or}
use Rattle.job_format.specs.Rewriting.{value_bytes}
use Rattle.text.proofs.Texts.{puts_nothing, puts_as, room_left, puts_none, puts_turn}
use Rattle.job_format.proofs.Digits.{low_bytes}
use Rattle.job_format.proofs.JobBytes.{value_dropped, value_whole, length_values_to, values_all}
use Rattle.job_format.proofs.writer.put_values.Goals as goal
use Rattle.job_format.proofs.writer.put_values.Goals.{then-not-is_needless, else-not-is_needless}

pub loop-bits-init : goal.loop-bits-init
loop-bits-init c = puts_none (λ j. value_bytes c.args.zeros (get_or c.args.values.now j 0)) c.args.writer.now

pub put_text-requires : goal.put_text-requires
put_text-requires c = rw c.to_le_bytes.ensures (room_left 8 (omega (arith, length_values_to c.args.zeros c.args.values.now c.loop-bits.bits-index)) c.loop-bits.invariant)

pub loop-bits-preserved : goal.loop-bits-preserved
loop-bits-preserved c =
    let a = c.args in
    let v = get_or a.values.now c.loop-bits.bits-index 0 in
    puts_turn (λ j. value_bytes a.zeros (get_or a.values.now j 0)) c.loop-bits.bits-index (omega (arith, length_values_to a.zeros a.values.now c.loop-bits.bits-index))
    c.loop-bits.invariant
    (elim c.if-not-is_needless.branch [
      | then-not-is_needless w ↦ rw w.writer-is (puts_as (w.to_le_bytes.ensures ∙ low_bytes 8 v (omega arith) ∙ value_whole a.zeros v (sym c.is_needless.ensures ∙ w.if-not-is_needless.true)) w.put_text.ensures)
      | else-not-is_needless w ↦ rw w.writer-is (puts_as (value_dropped a.zeros v (sym c.is_needless.ensures ∙ w.if-not-is_needless.false)) (puts_nothing c.loop-bits.writer))
    ])

pub returns : goal.returns
returns c =
    let a = c.args in
    puts_as (values_all a.zeros a.values.now c.loop-bits.bits-index (omega arith)) c.loop-bits.invariant

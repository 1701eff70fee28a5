-- `text::Writer::put_decimal` meets its contract. The digits before the last, then the last. Assumes nothing.
use native.Mathlib.Omega.{arith}
use mathlib.Core.Path.{sym}
use Rattle.text.proofs.Texts.{puts_then, puts_as, length_put}
use Rattle.text.proofs.Decimals.{length_step, length_digit, decimal_digit, decimal_step}
use Rattle.text.proofs.Writer.+put_decimal.Goals as goal
use Rattle.text.proofs.Writer.+put_decimal.Goals.{then-n-ge10, else-n-ge10}

pub put_decimal-requires : goal.put_decimal-requires
put_decimal-requires t c = omega (arith, length_step c.args.n c.if-n-ge10.true c.ranges.n.fits)

pub put_byte-requires : goal.put_byte-requires
put_byte-requires t c =
    elim c.if-n-ge10.branch [
      | then-n-ge10 w ↦
          let l = length_step c.args.n w.if-n-ge10.true c.ranges.n.fits in
          rw w.self-is (omega (arith, l, w.put_decimal.ensures.written.next, length_put (omega (arith, l)) w.put_decimal.ensures))
      | else-n-ge10 w ↦ rw w.self-is (omega (arith, length_digit c.args.n w.if-n-ge10.false))
    ]

pub returns : goal.returns
returns t c =
    elim c.if-n-ge10.branch [
      | then-n-ge10 w ↦
          let l = length_step c.args.n w.if-n-ge10.true c.ranges.n.fits in
          puts_as (sym (decimal_step c.args.n w.if-n-ge10.true c.ranges.n.fits))
          (puts_then (omega (arith, l)) w.put_decimal.ensures (rw w.self-is at c.put_byte.ensures))
      | else-n-ge10 w ↦
          puts_as (sym (decimal_digit c.args.n w.if-n-ge10.false)) (rw w.self-is at c.put_byte.ensures)
    ]

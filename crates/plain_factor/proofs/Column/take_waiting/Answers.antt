-- `plain_factor::Column::take_waiting` meets its contract. Assumes nothing.
use Prim.Native.Nat.{◌+◌, ◌-◌}
use native.Mathlib.Omega.{arith}
use native.Mathlib.Decide.{dec_lt}
use mathlib.Core.Path.{◌≡◌, ap, ◌∙◌}
use lib.ListN.{get_or}
use lib.Seq.{get_or-set_same, get_or-set_other}
use lib.Ieee.{nan, binary64, mul, sub}
use Rattle.plain_factor.proofs.Rows.{waiting_next}
use Rattle.plain_factor.proofs.Column.take_waiting.Goals as goal

pub loop-i-preserved : goal.loop-i-preserved
loop-i-preserved c =
    let s = c.args.self.now in
    let i = c.loop-i.i in
    let last = c.row_start-last.result in
    let value =
    sub binary64 (get_or c.loop-i.work (i - c.args.top) nan) (mul binary64 (get_or s.matrix.now (last + i) nan) (get_or s.matrix.now (last + s.j) nan)) in
    record {
      rows = λ q low h.
          elim (dec_lt q i) [
            | yes p ↦ get_or-set_other c.loop-i.work i q value nan (λ e. omega arith) ∙ c.loop-i.invariant.rows q low p
            | no p ↦
                let here : q ≡ i = omega arith in
                rw here
                (get_or-set_same c.loop-i.work i value nan (omega arith)
                ∙ ap (λ y. sub binary64 y (mul binary64 (get_or s.matrix.now (last + i) nan) (get_or s.matrix.now (last + s.j) nan)))
                (c.loop-i.invariant.front (i - c.args.top) (omega arith) (omega arith))
                ∙ waiting_next s.n s.matrix.now s.j c.args.top last c.args.work.now (omega arith) c.row_start-last.ensures.place c.requires.waiting i (omega arith)
                (omega arith))
          ];
      front = λ p low h. get_or-set_other c.loop-i.work i p value nan (λ e. omega arith) ∙ c.loop-i.invariant.front p low h;
    }

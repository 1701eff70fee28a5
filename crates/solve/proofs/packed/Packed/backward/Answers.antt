-- `solve::packed::Packed::backward` meets its contract. The invariant of its loop: the substitution has come to column 8 q. Assumes nothing.
use Prim.Native.Nat.{◌+◌, ◌-◌, ◌*◌, ◌/◌}
use native.Mathlib.Omega.{arith}
use mathlib.Core.Path.{◌≡◌, subst}
use lib.ListN.{length-take, length-drop}
use Rattle.solve.specs.Parts.{packed_factor}
use Rattle.solve.proofs.PackedTurns.{backward_turn}
use Rattle.solve.proofs.Substitution.{BackwardTo, backward_start, backward_end}
use Rattle.solve.proofs.packed.Packed.backward.Goals as goal

pub backward_triangle-requires : goal.backward_triangle-requires
backward_triangle-requires c = record { w_le_order = omega arith; rows = simp (length-take, length-drop) (omega arith) }

pub loop-q-init : goal.loop-q-init
loop-q-init c =
    let f = c.args.self.now in
    let last = c.trailing-last.result in
    let whole : f.order ≡ 8 * (f.order / 8) + last.order = omega arith in
    backward_turn f last (8 * (f.order / 8)) last.order (omega arith) c.trailing-last.ensures.0 c.trailing-last.ensures.1 c.args.work.now
    c.args.work.now c.backward_triangle.new.work (subst (λ k. BackwardTo f.order (packed_factor f) c.args.work.now k c.args.work.now) whole
    (backward_start f.order (packed_factor f) c.args.work.now c.requires)) c.backward_triangle.ensures

pub backward_columns8-requires : goal.backward_columns8-requires
backward_columns8-requires c = record { le_order = omega arith; rows = simp (length-take, length-drop) (omega (arith, c.loop-q.invariant.size)) }

pub loop-q-preserved : goal.loop-q-preserved
loop-q-preserved c =
    let f = c.args.self.now in
    let next : 8 * c.loop-q.q ≡ 8 * (c.loop-q.q - 1) + 8 = omega arith in
    backward_turn f c.trailing.result (8 * (c.loop-q.q - 1)) 8 (omega arith) c.trailing.ensures.0 c.trailing.ensures.1 c.args.work.now
    c.loop-q.work c.backward_columns8.new.work (rw next at c.loop-q.invariant) c.backward_columns8.ensures

pub returns : goal.returns
returns c =
    let a = c.args in
    let end : 8 * c.loop-q.q ≡ 0 = omega arith in
    backward_end a.self.now.order _ a.work.now c.loop-q.work (rw end at c.loop-q.invariant)

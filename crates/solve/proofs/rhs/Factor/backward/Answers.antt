-- `solve::rhs::Factor::backward` meets its contract, by cases on the layout. Assumes nothing.
use mathlib.Core.Path.{ap₂, ◌∙◌}
use Rattle.calls.specs.Triangles.{place_of}
use Rattle.calls.specs.Arithmetic as Arithmetic
use Rattle.solve.proofs.PackedTurns.{trailing_packed}
use Rattle.solve.proofs.rhs.Factor.backward.Goals as goal

pub returns-in-Packed : goal.returns-in-Packed
unfolding place_of
returns-in-Packed c =
    let f = c.args.self.now in
    rw c.in-Packed.is
    (c.backward.ensures
    ∙ ap₂ (λ n l. Arithmetic.backward n l c.args.work.now) c.trailing.ensures.0
    (trailing_packed (record { order = f.shape.order; matrix = f.matrix; bound = f.order; values = f.values }) c.trailing.result f.first f.before c.trailing.ensures))

pub returns-in-Blocked : goal.returns-in-Blocked
unfolding place_of
returns-in-Blocked c = rw c.in-Blocked.is c.backward_from.ensures

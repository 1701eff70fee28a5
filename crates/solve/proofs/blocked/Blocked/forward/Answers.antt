-- `solve::blocked::Blocked::forward` meets its contract. Assumes nothing.
use mathlib.Core.Path.{ap, ap₂, ◌∙◌}
use Rattle.shape.specs.Places.{packed_place}
use Rattle.calls.specs.Triangles.{height, load}
use Rattle.calls.specs.Arithmetic as Arithmetic
use Rattle.solve.proofs.Factors.{one_column}
use Rattle.solve.proofs.blocked.Blocked.forward.Goals as goal

pub returns-in-1 : goal.returns-in-1
returns-in-1 c =
    let f = c.args.self.now in
    c.forward.ensures
    ∙ ap₂ (λ n m. Arithmetic.forward n (load (packed_place n) (height n) n m) c.args.work.now) c.packed.ensures.0 c.packed.ensures.1
    ∙ ap (λ l. Arithmetic.forward f.shape.order l c.args.work.now) (one_column f.shape.order f.shape.block f.matrix.now c.in-1.is)

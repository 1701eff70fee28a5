-- `blocked_factor::block_column::BlockColumn::lowest_overflow` meets its contract. Assumes nothing.
use native.Mathlib.Omega.{arith}
use native.Mathlib.Nat.{le_refl}
use lib.Dec.{T}
use mathlib.Core.Path.{sym, subst, ◌∙◌}
use Rattle.blocked_factor.proofs.BlockVerdicts.{columns_finite}
use Rattle.blocked_factor.proofs.block_column.BlockColumn.lowest_overflow.Goals as goal

pub returns-then-all_finite-clause-none : goal.returns-then-all_finite-clause-none
returns-then-all_finite-clause-none c =
    let a = c.args in
    let finite = (rw c.size.ensures at (sym c.all_finite.ensures ∙ c.if-all_finite.true)) in
    record {
      inside = le_refl _;
      before = λ k few. columns_finite a.self.width a.self.rows k a.part.now few a.self.tall c.requires (subst T (sym finite) tt);
      here = λ narrow. absurd (omega arith);
    }

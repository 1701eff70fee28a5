-- `solve::blocked::Blocked::forward_from` meets its contract: what the first block column leaves is the substitution with the trailing triangle after it.
-- Assumes nothing.
use Prim.Native.Nat.{◌+◌, ◌<◌}
use native.Mathlib.Omega.{arith}
use mathlib.Core.Path.{refl, sym, ap₂, ◌∙◌}
use mathlib.Core.Logic.{inl, inr}
use Rattle.shape.proofs.Blocks.{block_of_le}
use Rattle.calls.specs.Arithmetic as Arithmetic
use Rattle.solve.proofs.Substitution.{lent}
use Rattle.solve.proofs.BlockTurns.{trailing_factor, trailing_fits, trailing_ends, forward_joined}
use Rattle.solve.proofs.blocked.Blocked.forward_from.Goals as goal

-- column k is not its block column's first, and so it is not 0
pub block_column-block-requires : goal.block_column-block-requires
block_column-block-requires c =
    (c.requires.k_le_order.1 (omega (arith, block_of_le c.args.self.now.shape.block c.args.k)), omega arith, inl refl)

pub returns-then-block_of-k : goal.returns-then-block_of-k
returns-then-block_of-k c =
    let f = c.args.self.now in
    c.forward.ensures
    ∙ ap₂ (λ n l. Arithmetic.forward n l c.args.work.now) c.trailing.ensures.0
    (trailing_factor f c.trailing.result c.args.k c.requires.k_le_order.0 (inr (sym c.block_of.ensures ∙ c.if-block_of-k.true)) c.trailing.ensures)

pub returns-else-block_of-k : goal.returns-else-block_of-k
returns-else-block_of-k c =
    let f = c.args.self.now in
    let n = f.shape.order in
    let block = c.block_column-block.result in
    let part = c.trailing-else-block_of-k.result in
    let inside : c.args.k < n = c.requires.k_le_order.1 (omega (arith, block_of_le f.shape.block c.args.k)) in
    let fits = trailing_fits f n c.args.k block (omega arith) inside c.block_column-block.ensures in
    let ends = trailing_ends f n c.args.k block (omega arith) inside c.block_column-block.ensures refl in
    let after =
    c.forward-else-block_of-k-2.ensures
    ∙ ap₂ (λ m l. Arithmetic.forward m l (lent block.w c.forward-else-block_of-k.new.work)) c.trailing-else-block_of-k.ensures.0
    (trailing_factor f part (c.args.k + block.w) fits ends c.trailing-else-block_of-k.ensures) in
    forward_joined f n c.args.k block (omega arith) inside c.block_column-block.ensures refl c.args.work.now _ _ c.requires.rows c.forward-else-block_of-k.ensures after

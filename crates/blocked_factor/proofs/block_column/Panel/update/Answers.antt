-- `blocked_factor::block_column::Panel::update` meets its contract. Assumes nothing.
use native.Mathlib.Omega.{arith}
use Prim.Native.Nat.{◌+◌}
use Rattle.blocked_factor.proofs.Panels.{row_room}
use Rattle.blocked_factor.proofs.EarlierBlocks.{earlier_none}
use Rattle.blocked_factor.proofs.block_column.Panel.update.Goals as goal

pub returns-then-self-eq0 : goal.returns-then-self-eq0
returns-then-self-eq0 c = rw c.if-self-eq0.true (earlier_none _ _ _ _ _ _)

pub pack-requires-clause-by_index : goal.pack-requires-clause-by_index
pack-requires-clause-by_index c =
    λ t few.
    let a = c.args in
    omega (
      arith,
      row_room (record { wide = a.self.wide; tall = a.self.column.tall; room = c.requires }) (a.self.s0 + t) (omega arith) (omega (arith, a.self.wide, a.self.column.tall)),
    )

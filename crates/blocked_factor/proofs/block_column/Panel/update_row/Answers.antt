-- `blocked_factor::block_column::Panel::update_row` meets its contract. Assumes nothing.
use native.Mathlib.Omega.{arith}
use mathlib.Core.Path.{◌≡◌}
use Prim.Native.Nat.{ℕ, ◌+◌, ◌-◌, ◌≤◌, ◌<◌, min}
use Rattle.blocked_factor.specs.BlockColumns.{row_start}
use Rattle.blocked_factor.proofs.BlockRows.{row_mono}
use Rattle.blocked_factor.proofs.Panels.{row_room, filled_packed}
use Rattle.blocked_factor.proofs.block_column.Panel.update_row.Goals as goal

-- the row lies in the memory
room : {w h s0 len r : ℕ} (g : ℕ) → s0 + g ≤ w → w ≤ h → (s0 ≤ r) × (r < h) × (row_start w h ≤ len) → row_start w r + s0 + min g (r + 1 - s0) ≤ len
room {r = r} g wide tall so = row_room (record { wide = wide; tall = tall; room = so.2 }) r so.0 so.1

pub overflow_add-x : goal.overflow_add-x
overflow_add-x c =
    omega (arith, c.row-x.ensures, room c.args.self.g c.args.self.wide c.args.self.column.tall c.requires.in_panel)

pub update-requires : goal.update-requires
update-requires c =
    omega (arith, c.row-x.ensures, c.columns_in-len.ensures, room c.args.self.g c.args.self.wide c.args.self.column.tall c.requires.in_panel, (c.requires.packed _ c.in-Some.is).0)

pub overflow_add-x-in-Some-2 : goal.overflow_add-x-in-Some-2
overflow_add-x-in-Some-2 c =
    omega (arith, c.row-x.ensures, room c.args.self.g c.args.self.wide c.args.self.column.tall c.requires.in_panel)

pub update_part-requires : goal.update_part-requires
update_part-requires c =
    omega (arith, c.row-x.ensures, c.columns_in-len.ensures, room c.args.self.g c.args.self.wide c.args.self.column.tall c.requires.in_panel, (c.requires.packed _ c.in-Some-2.is).0)

pub update_entries-requires : goal.update_entries-requires
update_entries-requires c = record {
  len_bound = omega (arith, c.row-x.ensures, c.columns_in-len.ensures, room c.args.self.g c.args.self.wide c.args.self.column.tall c.requires.in_panel);
  by_index = λ t few. omega (arith, c.row-x.ensures, c.columns_in-len.ensures, row_mono c.args.self.column.width (c.args.self.s0 + t) c.args.r (omega (arith, c.columns_in-len.ensures)));
}

pub returns-in-Some : goal.returns-in-Some
returns-in-Some c =
    let a = c.args in
    let full : min a.self.g (a.r + 1 - a.self.s0) ≡ 16 = omega (arith, c.columns_in-len.ensures) in
    rw full
    (filled_packed a.part.now _ _ a.self.column.width a.self.s0 (row_start a.self.column.width a.r) (row_start a.self.column.width a.r + a.self.s0) 16 a.self.s0
    (rw full at (c.requires.packed _ c.in-Some.is).1) (rw c.row-x.ensures at c.update.ensures))

pub returns-in-Some-2 : goal.returns-in-Some-2
returns-in-Some-2 c =
    let a = c.args in
    filled_packed a.part.now _ _ a.self.column.width a.self.s0 (row_start a.self.column.width a.r) (row_start a.self.column.width a.r + a.self.s0) _ a.self.s0
    (c.requires.packed _ c.in-Some-2.is).1 (rw (c.row-x.ensures, c.columns_in-len.ensures) at c.update_part.ensures)

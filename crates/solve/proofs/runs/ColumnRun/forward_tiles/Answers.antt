-- `solve::runs::ColumnRun::forward_tiles` meets its contract. The invariant of its loop: the products are subtracted from the rows before r, and whole tiles
-- are left. Assumes nothing.
use Prim.Native.Nat.{ℕ, ◌+◌, ◌-◌, ◌%◌, ◌≤◌, ◌<◌}
use native.Mathlib.Nat.{mod-eq-sub-mod, mod-eq_of_lt}
use native.Mathlib.Decide.{dec_lt}
use native.Mathlib.Omega.{arith}
use mathlib.Core.Path.{◌≡◌, sym, ap, ◌∙◌}
use Rattle.solve.specs.Parts.{blocked_entries}
use Rattle.solve.proofs.Rows.{replaced_none, rows_join}
use Rattle.solve.proofs.runs.ColumnRun.forward_tiles.Goals as goal

-- whole tiles after row r: one of them, and then whole tiles
whole : (n r rows : ℕ) → r < n → (n - r) % rows ≡ 0 → (r + rows ≤ n) × ((n - (r + rows)) % rows ≡ 0)
whole n r rows less left =
    elim (dec_lt (n - r) rows) [
      | yes short ↦ absurd (omega (arith, mod-eq_of_lt short))
      | no enough ↦
          let rest : n - (r + rows) ≡ n - r - rows = omega arith in
          (omega arith, ap (λ m. m % rows) rest ∙ sym (mod-eq-sub-mod {n = n - r} {m = rows} (omega arith)) ∙ left)
    ]

pub loop-r-init : goal.loop-r-init
loop-r-init g c = (omega arith, c.requires.tiles.1, c.requires.tiles.3, replaced_none _ c.args.from c.args.work.now)

pub forward_tile-requires : goal.forward_tile-requires
forward_tile-requires g c =
    let run = c.args.self.now in
    record {
      work_rows = c.loop-r.invariant.3.size ∙ c.requires.work_rows;
      tile = omega (arith, whole run.memory.shape.order c.loop-r.r g.row.ROWS c.loop-r-test.true c.loop-r.invariant.2);
    }

pub loop-r-preserved : goal.loop-r-preserved
loop-r-preserved g c =
    let a = c.args in
    let run = a.self.now in
    let next = whole run.memory.shape.order c.loop-r.r g.row.ROWS c.loop-r-test.true c.loop-r.invariant.2 in (
      omega arith,
      next.0,
      next.1,
      rows_join (blocked_entries run.memory) run.w a.from c.loop-r.r (c.loop-r.r + g.row.ROWS) a.work.now c.loop-r.work c.forward_tile.new.work
          c.requires.tiles.0 c.loop-r.invariant.0 (omega arith) c.loop-r.invariant.3 c.forward_tile.ensures,
    )

-- the last tile
pub returns-2 : goal.returns-2
returns-2 g c =
    let a = c.args in
    let run = a.self.now in
    let next = whole run.memory.shape.order c.loop-r.r g.row.ROWS c.loop-r-test.true c.loop-r.invariant.2 in
    let end : c.loop-r.r + g.row.ROWS ≡ run.memory.shape.order = omega (arith, next.0) in
    rw end at (rows_join (blocked_entries run.memory) run.w a.from c.loop-r.r (c.loop-r.r + g.row.ROWS) a.work.now c.loop-r.work
    c.forward_tile.new.work c.requires.tiles.0 c.loop-r.invariant.0 (omega arith) c.loop-r.invariant.3 c.forward_tile.ensures)

-- there are no rows
pub returns : goal.returns
returns g c =
    let end : c.loop-r.r ≡ c.args.self.now.memory.shape.order = omega arith in
    rw end at c.loop-r.invariant.3

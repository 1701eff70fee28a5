-- `solve::runs::ColumnRun::columns` meets its contract: in each arm the block length is that of its call. Assumes nothing.
use Prim.Native.Nat.{ℕ, ◌+◌, ◌-◌, ◌*◌, ◌/◌, ◌≤◌, ◌<◌}
use native.Mathlib.Omega.{arith}
use mathlib.Core.Path.{◌≡◌, refl, sym, ap, ◌∙◌}
use mathlib.Core.List.{List}
use lib.ListN.{length, get_or}
use lib.Ieee.{Float, nan}
use Rattle.shape.specs.Places.{triangle, block_of, blocked_place}
use Rattle.shape.proofs.Blocks.{block_of_lt, block_of_block}
use Rattle.calls.specs.Arithmetic.{minus_products}
use Rattle.kernels.specs.Kernels.{RowsBelow}
use Rattle.solve.specs.declared.runs.ColumnRun.{ColumnRun}
use Rattle.solve.proofs.RunTurns.{run_full}
use Rattle.solve.proofs.runs.ColumnRun.columns.Goals as goal

-- column j less the products of the last rows
abbrev Reduced : ℕ → ℕ → List Float → ℕ → List Float → ℕ → List Float → List Float → Type 0
Reduced w b part h v count tile t =
    (j : ℕ) → j < w →
    get_or t j nan ≡ minus_products (λ k. get_or part (blocked_place h b (h - 1 - k) j) nan) (λ k. get_or v (h - 1 - k) nan) count (get_or tile j nan)

module _ (run : ColumnRun) (count w lanes : ℕ) (same : run.memory.shape.block ≡ lanes) (full : w ≡ lanes * (16 / lanes)) where
  abbrev h : ℕ
  h = run.memory.shape.order

  whole : run.w < h → w ≡ run.w
  unfolding block_of
  whole under = full ∙ ap (λ q. q * (16 / q)) (sym same) ∙ sym (run_full run under)

  module _ {rows : ℕ} (fits : (run.w + count ≤ h) × (run.w < h) × (h ≤ rows)) where
    below : RowsBelow 0 h lanes (triangle lanes) w (h - count) count (length run.memory.matrix.now)
    below =
        let own : w ≡ run.w = whole fits.1 in
        record {
          order = run.memory.order;
          block = omega (arith, run.low, same);
          block_high = omega (arith, run.high, same);
          diagonal = refl;
          some = omega (arith, own, run_full run fits.1, block_of_lt run.memory.shape.block 16 run.memory.block, run.high);
          whole = ap (block_of lanes) (own ∙ run_full run fits.1 ∙ ap (λ b. block_of b 16) same) ∙ block_of_block lanes 16 (omega (arith, run.low, same))
              ∙ sym (own ∙ run_full run fits.1 ∙ ap (λ b. block_of b 16) same);
          above = omega (arith, own);
          inside = omega arith;
          size = omega (arith, run.memory.values);
        }

    done :
        (v tile t : List Float) → Reduced w lanes run.memory.matrix.now h v count tile t →
        Reduced run.w run.memory.shape.block run.memory.matrix.now h v count tile t
    done v tile t reduced j less =
        reduced j (omega (arith, whole fits.1))
        ∙ ap (λ b. minus_products (λ k. get_or run.memory.matrix.now (blocked_place h b (h - 1 - k) j) nan) (λ k. get_or v (h - 1 - k) nan) count (get_or tile j nan))
        (sym same)

pub reduce_columns-requires-clause-rows_below : goal.reduce_columns-requires-clause-rows_below
reduce_columns-requires-clause-rows_below c = below c.args.self.now c.args.count 16 2 c.in-2.is refl c.requires

pub reduce_columns-requires-in-3-clause-rows_below : goal.reduce_columns-requires-in-3-clause-rows_below
reduce_columns-requires-in-3-clause-rows_below c = below c.args.self.now c.args.count 15 3 c.in-3.is refl c.requires

pub reduce_columns-requires-in-4-clause-rows_below : goal.reduce_columns-requires-in-4-clause-rows_below
reduce_columns-requires-in-4-clause-rows_below c = below c.args.self.now c.args.count 16 4 c.in-4.is refl c.requires

pub reduce_columns-requires-in-5-clause-rows_below : goal.reduce_columns-requires-in-5-clause-rows_below
reduce_columns-requires-in-5-clause-rows_below c = below c.args.self.now c.args.count 15 5 c.in-5.is refl c.requires

pub reduce_columns-requires-in-6-clause-rows_below : goal.reduce_columns-requires-in-6-clause-rows_below
reduce_columns-requires-in-6-clause-rows_below c = below c.args.self.now c.args.count 12 6 c.in-6.is refl c.requires

pub reduce_columns-requires-in-7-clause-rows_below : goal.reduce_columns-requires-in-7-clause-rows_below
reduce_columns-requires-in-7-clause-rows_below c = below c.args.self.now c.args.count 14 7 c.in-7.is refl c.requires

pub reduce_columns-requires-in-8-clause-rows_below : goal.reduce_columns-requires-in-8-clause-rows_below
reduce_columns-requires-in-8-clause-rows_below c = below c.args.self.now c.args.count 16 8 c.in-8.is refl c.requires

pub reduce_columns-requires-in-9-clause-rows_below : goal.reduce_columns-requires-in-9-clause-rows_below
reduce_columns-requires-in-9-clause-rows_below c = below c.args.self.now c.args.count 9 9 c.in-9.is refl c.requires

pub reduce_columns-requires-in-10-clause-rows_below : goal.reduce_columns-requires-in-10-clause-rows_below
reduce_columns-requires-in-10-clause-rows_below c = below c.args.self.now c.args.count 10 10 c.in-10.is refl c.requires

pub reduce_columns-requires-in-11-clause-rows_below : goal.reduce_columns-requires-in-11-clause-rows_below
reduce_columns-requires-in-11-clause-rows_below c = below c.args.self.now c.args.count 11 11 c.in-11.is refl c.requires

pub reduce_columns-requires-in-12-clause-rows_below : goal.reduce_columns-requires-in-12-clause-rows_below
reduce_columns-requires-in-12-clause-rows_below c = below c.args.self.now c.args.count 12 12 c.in-12.is refl c.requires

pub reduce_columns-requires-in-13-clause-rows_below : goal.reduce_columns-requires-in-13-clause-rows_below
reduce_columns-requires-in-13-clause-rows_below c = below c.args.self.now c.args.count 13 13 c.in-13.is refl c.requires

pub reduce_columns-requires-in-14-clause-rows_below : goal.reduce_columns-requires-in-14-clause-rows_below
reduce_columns-requires-in-14-clause-rows_below c = below c.args.self.now c.args.count 14 14 c.in-14.is refl c.requires

pub reduce_columns-requires-in_default-clause-rows_below : goal.reduce_columns-requires-in_default-clause-rows_below
reduce_columns-requires-in_default-clause-rows_below c = below c.args.self.now c.args.count 15 15 (omega arith) refl c.requires

pub returns-in-2 : goal.returns-in-2
returns-in-2 c =
    done c.args.self.now c.args.count 16 2 c.in-2.is refl c.requires c.args.work.now c.args.tile c.reduce_columns.result c.reduce_columns.ensures

pub returns-in-3 : goal.returns-in-3
returns-in-3 c =
    done c.args.self.now c.args.count 15 3 c.in-3.is refl c.requires c.args.work.now c.args.tile c.reduce_columns-in-3.result c.reduce_columns-in-3.ensures

pub returns-in-4 : goal.returns-in-4
returns-in-4 c =
    done c.args.self.now c.args.count 16 4 c.in-4.is refl c.requires c.args.work.now c.args.tile c.reduce_columns-in-4.result c.reduce_columns-in-4.ensures

pub returns-in-5 : goal.returns-in-5
returns-in-5 c =
    done c.args.self.now c.args.count 15 5 c.in-5.is refl c.requires c.args.work.now c.args.tile c.reduce_columns-in-5.result c.reduce_columns-in-5.ensures

pub returns-in-6 : goal.returns-in-6
returns-in-6 c =
    done c.args.self.now c.args.count 12 6 c.in-6.is refl c.requires c.args.work.now c.args.tile c.reduce_columns-in-6.result c.reduce_columns-in-6.ensures

pub returns-in-7 : goal.returns-in-7
returns-in-7 c =
    done c.args.self.now c.args.count 14 7 c.in-7.is refl c.requires c.args.work.now c.args.tile c.reduce_columns-in-7.result c.reduce_columns-in-7.ensures

pub returns-in-8 : goal.returns-in-8
returns-in-8 c =
    done c.args.self.now c.args.count 16 8 c.in-8.is refl c.requires c.args.work.now c.args.tile c.reduce_columns-in-8.result c.reduce_columns-in-8.ensures

pub returns-in-9 : goal.returns-in-9
returns-in-9 c =
    done c.args.self.now c.args.count 9 9 c.in-9.is refl c.requires c.args.work.now c.args.tile c.reduce_columns-in-9.result c.reduce_columns-in-9.ensures

pub returns-in-10 : goal.returns-in-10
returns-in-10 c =
    done c.args.self.now c.args.count 10 10 c.in-10.is refl c.requires c.args.work.now c.args.tile c.reduce_columns-in-10.result c.reduce_columns-in-10.ensures

pub returns-in-11 : goal.returns-in-11
returns-in-11 c =
    done c.args.self.now c.args.count 11 11 c.in-11.is refl c.requires c.args.work.now c.args.tile c.reduce_columns-in-11.result c.reduce_columns-in-11.ensures

pub returns-in-12 : goal.returns-in-12
returns-in-12 c =
    done c.args.self.now c.args.count 12 12 c.in-12.is refl c.requires c.args.work.now c.args.tile c.reduce_columns-in-12.result c.reduce_columns-in-12.ensures

pub returns-in-13 : goal.returns-in-13
returns-in-13 c =
    done c.args.self.now c.args.count 13 13 c.in-13.is refl c.requires c.args.work.now c.args.tile c.reduce_columns-in-13.result c.reduce_columns-in-13.ensures

pub returns-in-14 : goal.returns-in-14
returns-in-14 c =
    done c.args.self.now c.args.count 14 14 c.in-14.is refl c.requires c.args.work.now c.args.tile c.reduce_columns-in-14.result c.reduce_columns-in-14.ensures

pub returns-in_default : goal.returns-in_default
returns-in_default c =
    done c.args.self.now c.args.count 15 15 (omega arith) refl c.requires c.args.work.now c.args.tile c.reduce_columns-in_default.result c.reduce_columns-in_default.ensures

-- Finishing a panel of a block column: a column of some rows, the columns of some rows, a diagonal, the rows with the diagonals, the rows below them,
-- and panels after one another. Assumes nothing.
use Prim.Native.Nat.{ℕ, ◌+◌, ◌-◌, ◌≤◌, ◌<◌}
use native.Mathlib.Nat.{le_refl}
use native.Mathlib.Omega.{arith}
use native.Mathlib.Decide.{dec_lt}
use mathlib.Core.Path.{◌≡◌, refl, sym, ap, ap₂, ◌∙◌}
use mathlib.Core.Bool.{Bool, true, false, cond}
use mathlib.Core.List.{List, ◌++◌}
use lib.ListN.{length, get_or, set, take, drop, length-set}
use lib.Seq.{get_or-set_same, get_or-set_other}
use lib.Ieee.{Float, nan, binary64, div}
use Rattle.binary64.specs.Kinds.{positive}
use Rattle.binary64.specs.Root.{root, exact}
use Rattle.binary64.specs.Judged.{judged, exact_root}
use Rattle.binary64.specs.declared.Pivot.{Pivot}
use Rattle.binary64.specs.declared.Pivot.TheVariants.{Root, Refused}
use Rattle.calls.specs.Triangles.{Triangle}
use Rattle.calls.specs.Arithmetic.{minus_products}
use Rattle.calls.specs.Refusals.{column_rules, column_exact}
use Rattle.calls.specs.declared.Judgement.{Judgement}
use Rattle.calls.specs.Judgements.{judgement, Joined}
use Rattle.calls.specs.Calls.{exact_column}
use Rattle.kernels.specs.Kernels.{Filled, Replaced, Scattered, row_at}
use Rattle.kernels.proofs.Parts.{length_part, part_replaced}
use Rattle.blocked_factor.specs.BlockColumns.{row_start, SameTo, less_panel, PanelUpdated, ColumnDivided, root_of}
use Rattle.blocked_factor.specs.BlockStages.{judge_pivot, pivots_to, Entered, Stage, all_rows, rows_to, top_rows, RowsFinished, DiagonalFinished, TriangleFinished, BelowFinished, ColumnsFinished}
use Rattle.blocked_factor.proofs.BlockRows.{row_next, row_mono, row_lt, row_apart}
use Rattle.blocked_factor.proofs.Stages.{rows_in, rows_above, rows_under, stage_same, panel_pivot, panel_root, panel_quotient, stage_next, stage_updated, stage_all}

-- ---- a column of some rows at once

module _ (w s0 s r n : ℕ) (left : s0 ≤ s) (narrow : s < w) (low : s < r) where
  module _ (at : ℕ → ℕ) (places : (k : ℕ) → k < n → at k ≡ row_start w (r + k) + s0) where
    pub rows_inside : (k : ℕ) → k < n → at k + (s - s0) < row_start w (r + n)
    rows_inside k few = omega (arith, places k few, row_lt w (r + k) (r + n) s (omega arith) (omega arith))

    pub rows_apart : (k k' : ℕ) → k < n → k' < n → at k ≡ at k' → k ≡ k'
    rows_apart k k' few few' e =
        let same : r + k ≡ r + k' =
        (row_apart w (r + k) (r + k') s0 s0 (omega arith) (omega arith) (omega (arith, places k few, places k' few'))).0
        in
        omega arith

    pub rows_divided :
        (m m' quotients : List Float) →
        ((k : ℕ) → k < n →
        get_or quotients k nan
        ≡ div binary64 (minus_products (row_at m (at k)) (row_at m (row_start w s + s0)) (s - s0) (get_or m (at k + (s - s0)) nan))
        (get_or m (row_start w s + s) nan)) →
        Scattered n (λ k. at k + (s - s0)) (λ k. get_or quotients k nan) m m' → ColumnDivided w s0 s r (r + n) m m'
    rows_divided m m' quotients values scattered =
        record {
          kept = scattered.size;
          rows = λ r' from to.
              let row : r + (r' - r) ≡ r' = omega arith in
              let few : r' - r < n = omega arith in
              let start : at (r' - r) ≡ row_start w r' + s0 = places (r' - r) few ∙ ap (λ q. row_start w q + s0) row in
              let place : at (r' - r) + (s - s0) ≡ row_start w r' + s = omega arith in
              (rw place at (scattered.inside (r' - r) few))
              ∙ values (r' - r) few
              ∙ ap₂
              (λ x y.
              div binary64 (minus_products (row_at m x) (row_at m (row_start w s + s0)) (s - s0) (get_or m y nan)) (get_or m (row_start w s + s) nan)) start place;
          outside = λ p none.
              scattered.outside p (λ k few e. none (r + k) (omega arith) (omega arith) (omega (arith, places k few)));
        }

-- ---- the columns of some rows, one after another

pub rows_none : (w s0 from to : ℕ) (m : List Float) → RowsFinished w s0 s0 from to m m
rows_none w s0 from to m =
    record {
      kept = refl;
      beyond = λ p far. refl;
      stage = λ n a c e limit fit right known rows stage.
          stage_same (λ r s lower high under. rw (at limit rows r) at under) (λ r s lower high over right'. rw (at limit rows r) at over) stage;
    }
  where
    at : (limit : ℕ → ℕ) → ((r : ℕ) → from ≤ r → r < to → limit r ≡ s0) → (r : ℕ) → rows_to from to s0 limit r ≡ limit r
    at limit rows r =
        elim (dec_lt r from) [
          | yes p ↦ rows_above from to s0 limit r p
          | no p ↦
              elim (dec_lt r to) [
                | yes q ↦ rows_in from to s0 limit r (omega arith) q ∙ sym (rows r (omega arith) q)
                | no q ↦ rows_under from to s0 limit r (omega arith)
              ]
        ]

pub rows_next :
    {w s0 s from to : ℕ} {m m₁ m₂ : List Float} → s0 ≤ s → s < w → s < from → RowsFinished w s0 s from to m m₁ →
    ColumnDivided w s0 s from to m₁ m₂ → RowsFinished w s0 (s + 1) from to m m₂
rows_next {w} {s0} {s} {from} {to} {m} {m₁} {m₂} left narrow under before column =
    record {
      kept = column.kept ∙ before.kept;
      beyond = λ p far.
          column.outside p (λ r l h z. omega (arith, row_lt w r to s h (omega arith))) ∙ before.beyond p far;
      stage = λ n a c e limit fit right known rows stage.
          let now : Stage n a c w s0 e (rows_to from to s limit) m₁ =
          before.stage n a c e limit fit (omega arith) (λ k l u. known k l (omega arith)) rows stage
          in
          let diagonal : s < rows_to from to s limit s = rw (rows_above from to s limit s under) (known s left (omega arith)) in
          stage_next now s left (omega arith) narrow from to (rows_to from to (s + 1) limit) m₂ (omega arith)
          (λ r l h high.
          column.rows r l h
          ∙ panel_quotient now s left (omega arith) narrow r (omega arith) high (rows_in from to s limit r l h) diagonal)
          column.outside (λ r. rows_in from to s limit r) (λ r. rows_in from to (s + 1) limit r)
          (λ r up. rows_above from to (s + 1) limit r up ∙ sym (rows_above from to s limit r up))
          (λ r down. rows_under from to (s + 1) limit r down ∙ sym (rows_under from to s limit r down));
    }

-- ---- a diagonal

root_of_lem : (x : Float) → root_of (judged x) ≡ root x
unfolding judged
root_of_lem x = go (positive x)
  where
    go : (b : Bool) → root_of (cond b (Root (root x) (exact x)) (Refused x)) ≡ root x
    go true = refl
    go false = refl

module _
    (c w s0 s : ℕ) (saved : List Float) (before answer : Judgement) (m : List Float) (left : s0 ≤ s) (narrow : s < w)
    (room : row_start w (s + 1) ≤ length m) where
  pub diagonal_finished :
      (entered x : Float) (q : Pivot) → entered ≡ get_or saved (row_start w s + s) nan →
      x ≡ minus_products (row_at m (row_start w s + s0)) (row_at m (row_start w s + s0)) (s - s0) (get_or m (row_start w s + s) nan) →
      q ≡ judged x →
      Joined before (judgement (column_rules (c + s) entered x true) (exact_root q)) answer →
      DiagonalFinished c w s0 s saved before m answer (set m (row_start w s + s) (root_of q))
  unfolding column_exact
  diagonal_finished entered x q own pivot judges joined =
      let p : Float = less_panel w s0 m s s in
      let d : Float = root_of q in
      let is : q ≡ judged p = judges ∙ ap judged pivot in
      record {
        kept = length-set m (row_start w s + s) d;
        beyond = λ x far. get_or-set_other m (row_start w s + s) x d nan (λ z. omega (arith, row_next w s));
        stage = λ n a e limit high right here stage.
            stage_next stage s left right narrow s (s + 1) (rows_to s (s + 1) (s + 1) limit) (set m (row_start w s + s) d) (le_refl s)
            (λ r l h high'.
            let same : r ≡ s = omega arith in
            rw same
            (get_or-set_same m (row_start w s + s) d nan (omega (arith, row_next w s))
            ∙ ap root_of is
            ∙ root_of_lem p
            ∙ panel_root stage s left right narrow high here))
            (λ x none. get_or-set_other m (row_start w s + s) x d nan (none s (omega arith) (omega arith)))
            (λ r l h. let same : r ≡ s = omega arith in rw same here) (λ r. rows_in s (s + 1) (s + 1) limit r)
            (λ r. rows_above s (s + 1) (s + 1) limit r) (λ r. rows_under s (s + 1) (s + 1) limit r);
        judgement = λ n a e limit high right here stage saves first.
            let next : c + s + 1 ≡ c + (s + 1) = omega arith in
            joined (judge_pivot n a) (exact_column n a) (c + s) first
            (ap (λ z. judgement (column_rules (c + s) entered x true) (exact_root z)) judges
            ∙ ap₂ (λ v z. judgement (column_rules (c + s) v z true) (exact_root (judged z))) (own ∙ saves.diagonal s narrow)
            (pivot ∙ panel_pivot stage s left right narrow high here))
            ∙ ap (pivots_to n a) next;
      }

-- ---- the rows with the diagonals

pub triangle_none : (c w s0 e : ℕ) (saved : List Float) (v : Judgement) (m : List Float) → TriangleFinished c w s0 e s0 saved v m v m
triangle_none c w s0 e saved v m =
    record {
      kept = refl;
      beyond = λ p far. refl;
      stage = λ n a fit stage.
          stage_same
          (λ r s lower high under.
          elim (dec_lt r s0) [
            | yes p ↦ omega arith
            | no p ↦ rw (rows_under 0 s0 e (all_rows s0) r (omega arith)) at under
          ])
          (λ r s lower high over right.
          elim (dec_lt r s0) [
            | yes p ↦ absurd (omega (arith, rows_in 0 s0 e (all_rows s0) r (omega arith) p))
            | no p ↦ rw (rows_under 0 s0 e (all_rows s0) r (omega arith)) at over
          ])
          stage;
      judgement = λ n a fit stage entered first. first;
    }

module _
    {c w s0 e s : ℕ} {v v₁ v₂ : Judgement} {saved m m₁ m₂ m₃ : List Float} (left : s0 ≤ s) (right : s < e)
    (before : TriangleFinished c w s0 e s saved v m v₁ m₁) (row : RowsFinished w s0 s s (s + 1) m₁ m₂)
    (diagonal : DiagonalFinished c w s0 s saved v₁ m₂ v₂ m₃) where
  module _ (n : ℕ) (a : Triangle) (fit : c + (s + 1) ≤ n) (stage : Stage n a c w s0 e (all_rows s0) m) where
    abbrev limit : ℕ → ℕ
    limit = rows_to s (s + 1) s (top_rows s0 e s)

    row_finished : Stage n a c w s0 e limit m₂
    row_finished =
        row.stage n a c e (top_rows s0 e s) fit (omega arith)
        (λ k l u. omega (arith, rows_in 0 s e (all_rows s0) k (omega arith) u))
        (λ r l h. rows_under 0 s e (all_rows s0) r l) (before.stage n a (omega arith) stage)

    same_above : (r : ℕ) → r < s → (rows_to s (s + 1) (s + 1) limit r ≡ e) × (top_rows s0 e (s + 1) r ≡ e)
    same_above r up = (
      (rows_above s (s + 1) (s + 1) limit r up ∙ rows_above s (s + 1) s (top_rows s0 e s) r up ∙ rows_in 0 s e (all_rows s0) r (omega arith) up),
      rows_in 0 (s + 1) e (all_rows s0) r (omega arith) (omega arith),
    )

    same_under : (r : ℕ) → s < r → (rows_to s (s + 1) (s + 1) limit r ≡ s0) × (top_rows s0 e (s + 1) r ≡ s0)
    same_under r down = (
      (rows_under s (s + 1) (s + 1) limit r (omega arith)
          ∙ rows_under s (s + 1) s (top_rows s0 e s) r (omega arith)
          ∙ rows_under 0 s e (all_rows s0) r (omega arith)),
      rows_under 0 (s + 1) e (all_rows s0) r (omega arith),
    )

    diagonal_stage : Stage n a c w s0 e (top_rows s0 e (s + 1)) m₃
    diagonal_stage =
        stage_same
        (λ r k lower high under.
        elim (dec_lt r s) [
          | yes p ↦ omega (arith, same_above r p)
          | no p ↦
              elim (dec_lt s r) [
                | yes q ↦ omega (arith, same_under r q)
                | no q ↦ omega (arith, rows_in s (s + 1) (s + 1) limit r (omega arith) (omega arith))
              ]
        ])
        (λ r k lower high over right'.
        elim (dec_lt s r) [
          | yes q ↦ omega (arith, same_under r q)
          | no q ↦ absurd (omega (arith, rows_in 0 (s + 1) e (all_rows s0) r (omega arith) (omega arith)))
        ])
        (diagonal.stage n a e limit (omega arith) right (rows_in s (s + 1) s (top_rows s0 e s) s (omega arith) (omega arith)) row_finished)

  pub triangle_next : TriangleFinished c w s0 e (s + 1) saved v m v₂ m₃
  triangle_next =
      record {
        kept = diagonal.kept ∙ row.kept ∙ before.kept;
        beyond = λ p far.
            diagonal.beyond p far ∙ row.beyond p far ∙ before.beyond p (omega (arith, row_mono w s (s + 1) (omega arith)));
        stage = diagonal_stage;
        judgement = λ n a fit stage entered first.
            diagonal.judgement n a e (limit n a fit stage) (omega arith) right
            (rows_in s (s + 1) s (top_rows s0 e s) s (omega arith) (omega arith)) (row_finished n a fit stage) entered
            (before.judgement n a (omega arith) stage entered first);
      }

-- ---- the rows below

pub below_none : (w s0 e from : ℕ) (m : List Float) → BelowFinished w s0 e from from m m
below_none w s0 e from m = record { kept = refl; beyond = λ p far. refl; stage = λ n a c fit stage. stage }

pub below_next :
    {w s0 e from r : ℕ} {m m₁ m₂ : List Float} (g : ℕ) → e ≤ r → BelowFinished w s0 e from r m m₁ → RowsFinished w s0 e r (r + g) m₁ m₂ →
    BelowFinished w s0 e from (r + g) m m₂
below_next {w} {s0} {e} {from} {r} {m} {m₁} {m₂} g low before rows =
    record {
      kept = rows.kept ∙ before.kept;
      beyond = λ p far. rows.beyond p far ∙ before.beyond p (omega (arith, row_mono w r (r + g) (omega arith)));
      stage = λ n a c fit stage.
          let now : Stage n a c w s0 e (rows_to r (r + g) e (top_rows s0 e r)) m₂ =
          rows.stage n a c e (top_rows s0 e r) fit (le_refl e) (λ k l u. omega (arith, rows_in 0 r e (all_rows s0) k (omega arith) (omega arith)))
          (λ q l h. rows_under 0 r e (all_rows s0) q l) (before.stage n a c (omega arith) stage)
          in
          stage_same (λ q k lower high under. rw (at q) at under) (λ q k lower high over right. rw (at q) at over) now;
    }
  where
    at : (q : ℕ) → top_rows s0 e (r + g) q ≡ rows_to r (r + g) e (top_rows s0 e r) q
    at q =
        elim (dec_lt q r) [
          | yes p ↦
              rows_in 0 (r + g) e (all_rows s0) q (omega arith) (omega arith)
              ∙ sym (rows_above r (r + g) e (top_rows s0 e r) q p ∙ rows_in 0 r e (all_rows s0) q (omega arith) p)
          | no p ↦
              elim (dec_lt q (r + g)) [
                | yes h ↦
                    rows_in 0 (r + g) e (all_rows s0) q (omega arith) h ∙ sym (rows_in r (r + g) e (top_rows s0 e r) q (omega arith) h)
                | no h ↦
                    rows_under 0 (r + g) e (all_rows s0) q (omega arith)
                    ∙ sym (rows_under r (r + g) e (top_rows s0 e r) q (omega arith) ∙ rows_under 0 r e (all_rows s0) q (omega arith))
              ]
        ]

-- ---- panels

-- a memory whose part from `start` on is lent and comes back
pub rest_replaced :
    (start : ℕ) (m part : List Float) → start ≤ length m → length part ≡ length (take (length m - start) (drop start m)) →
    Replaced nan start (length m - start) m part (take start m ++ (part ++ drop (length m - start) (drop start m)))
rest_replaced start m part inside kept =
    part_replaced nan start (length m - start) m part (omega arith) (kept ∙ length_part nan start (length m - start) m (omega arith))

-- what stands before that part stays
pub lent_same : {start count size : ℕ} {m m' : List Float} {value : ℕ → Float} → start ≡ size → Filled nan start count value m m' → SameTo size m m'
lent_same e lent = record { at = λ p low. lent.before p (omega arith) }

pub same_join : {size : ℕ} {m m₁ m₂ : List Float} → SameTo size m m₁ → SameTo size m₁ m₂ → SameTo size m m₂
same_join before then = record { at = λ p low. then.at p low ∙ before.at p low }

-- entry values on the diagonal stay where the saved ones do
pub entered_same : {a : Triangle} {c w h : ℕ} {saved saved₁ : List Float} → w ≤ h → SameTo (row_start w h) saved saved₁ → Entered a c w saved → Entered a c w saved₁
entered_same {w = w} {h} tall same entered =
    record { diagonal = λ s narrow. same.at (row_start w s + s) (row_lt w s h s (omega arith) (omega arith)) ∙ entered.diagonal s narrow }

pub panel_finished :
    {c w h s0 g : ℕ} {before answer : Judgement} {saved saved₁ m m₁ m₂ m₃ : List Float} → s0 + g ≤ w → w ≤ h → SameTo (row_start w h) saved saved₁ →
    PanelUpdated 0 w h s0 g (λ q. row_at m (row_start w q)) s0 m m₁ → TriangleFinished c w s0 (s0 + g) (s0 + g) saved₁ before m₁ answer m₂ →
    BelowFinished w s0 (s0 + g) (s0 + g) h m₂ m₃ → ColumnsFinished c w h s0 (s0 + g) saved before m answer m₃
panel_finished {c} {w} {h} {s0} {g} {m = m} {m₁} {m₂} {m₃} wide tall same update triangle below =
    record {
      kept = below.kept ∙ triangle.kept ∙ update.kept;
      beyond = λ p far.
          below.beyond p far
          ∙ triangle.beyond p (omega (arith, row_mono w (s0 + g) h (omega arith)))
          ∙ update.outside p (λ r s there z. omega (arith, row_lt w r h s there.row (omega (arith, there.lower, there.right))));
      stage = λ n a order stage.
          stage_all n a c w h s0 (s0 + g) m₃ order
          (below.stage n a c (omega arith)
          (triangle.stage n a (omega arith) (stage_updated n a c w h s0 g m m₁ order wide tall stage update)));
      judgement = λ n a order stage entered first.
          triangle.judgement n a (omega arith) (stage_updated n a c w h s0 g m m₁ order wide tall stage update) (entered_same tall same entered) first;
    }

pub columns_none : (c w h s : ℕ) (saved : List Float) (v : Judgement) (m : List Float) → ColumnsFinished c w h s s saved v m v m
columns_none c w h s saved v m =
    record { kept = refl; beyond = λ p far. refl; stage = λ n a order stage. stage; judgement = λ n a order stage entered first. first }

pub columns_join :
    {c w h s s' s'' : ℕ} {v v₁ v₂ : Judgement} {saved saved₁ m m₁ m₂ : List Float} → w ≤ h → SameTo (row_start w h) saved saved₁ →
    ColumnsFinished c w h s s' saved v m v₁ m₁ → ColumnsFinished c w h s' s'' saved₁ v₁ m₁ v₂ m₂ → ColumnsFinished c w h s s'' saved v m v₂ m₂
columns_join tall same before then =
    record {
      kept = then.kept ∙ before.kept;
      beyond = λ p far. then.beyond p far ∙ before.beyond p far;
      stage = λ n a order stage. then.stage n a order (before.stage n a order stage);
      judgement = λ n a order stage entered first.
          then.judgement n a order (before.stage n a order stage) (entered_same tall same entered) (before.judgement n a order stage entered first);
    }

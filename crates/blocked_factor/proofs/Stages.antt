-- The stages of a block column: what an entry is next, one column more in some rows, and the own products of a panel. Assumes nothing.
use Prim.Native.Nat.{ℕ, ◌+◌, ◌-◌, ◌≤◌, ◌<◌}
use native.Mathlib.Omega.{arith}
use native.Mathlib.Decide.{dec_lt, dec_le}
use mathlib.Core.Path.{◌≡◌, sym, ap, ap₂, ◌∙◌}
use mathlib.Core.Logic.{◌≢◌}
use mathlib.Core.Bool.{and-false}
use mathlib.Core.List.{List}
use borrow.Author.Tests.{le-leb, lt-leb, le-ltb, lt-ltb}
use lib.Dec.{leb}
use lib.ListN.{get_or}
use lib.Ieee.{Float, nan, binary64, div}
use Rattle.binary64.specs.Root.{root}
use Rattle.calls.specs.Triangles.{Triangle, entry}
use Rattle.calls.specs.Arithmetic.{minus_products, pivot, quotient}
use Rattle.calls.proofs.Columns.{columns, products_same, minus_add, entry_diagonal, entry_quotient}
use Rattle.calls.proofs.Entries.{row_products}
use Rattle.kernels.specs.Kernels.{row_at}
use Rattle.blocked_factor.specs.BlockColumns.{row_start, less_panel, PanelUpdated}
use Rattle.blocked_factor.specs.BlockStages.{factor_entry, less_products, Stage, all_rows, rows_to, top_rows}
use Rattle.blocked_factor.proofs.BlockRows.{row_apart}

-- ---- limits

module _ (from to s : ℕ) (limit : ℕ → ℕ) (r : ℕ) where
  pub rows_in : from ≤ r → r < to → rows_to from to s limit r ≡ s
  rows_in low high = rw (le-leb from r low, lt-ltb r to high)

  pub rows_above : r < from → rows_to from to s limit r ≡ limit r
  rows_above up = rw (lt-leb from r up)

  pub rows_under : to ≤ r → rows_to from to s limit r ≡ limit r
  rows_under down = rw (le-ltb r to down, and-false (leb from r))

pub stage_same :
    {n : ℕ} {a : Triangle} {c w s0 e : ℕ} {limit limit' : ℕ → ℕ} {m : List Float} →
    ((r s : ℕ) → s ≤ r → c + r < n → s < limit' r → s < limit r) → ((r s : ℕ) → s ≤ r → c + r < n → limit' r ≤ s → s < e → limit r ≤ s) →
    Stage n a c w s0 e limit m → Stage n a c w s0 e limit' m
stage_same less more stage =
    record {
      finished = λ r s lower high narrow under. stage.finished r s lower high narrow (less r s lower high under);
      started = λ r s lower high narrow over right. stage.started r s lower high narrow (more r s lower high over right) right;
      entered = stage.entered;
    }

-- ---- what an entry is next

module _ {n : ℕ} {a : Triangle} {c w s0 e : ℕ} {limit : ℕ → ℕ} {m : List Float} (stage : Stage n a c w s0 e limit m) (s : ℕ) (left : s0 ≤ s) (right : s < e) (narrow : s < w) where
  -- the entry less all its products
  panel_less : (r : ℕ) → s ≤ r → c + r < n → limit r ≡ s → s ≤ limit s → less_panel w s0 m r s ≡ less_products n a (c + s) (c + r) (c + s)
  panel_less r lower high here known =
      products_same (row_at m (row_start w r + s0)) (λ i. factor_entry n a (c + r) (c + s0 + i)) (row_at m (row_start w s + s0))
      (λ i. factor_entry n a (c + s) (c + s0 + i)) (s - s0) (get_or m (row_start w r + s) nan) (λ k few. row r k lower high (omega arith) few)
      (λ k few. row s k (omega arith) (omega arith) known few)
      ∙ ap (minus_products (λ i. factor_entry n a (c + r) (c + s0 + i)) (λ i. factor_entry n a (c + s) (c + s0 + i)) (s - s0))
      (stage.started r s lower high narrow (omega arith) right)
      ∙ sym (minus_add (λ q. factor_entry n a (c + r) q) (λ q. factor_entry n a (c + s) q) (c + s0) (s - s0) (entry a (c + r) (c + s)))
      ∙ ap (λ k. less_products n a k (c + r) (c + s)) total
    where
      total : c + s0 + (s - s0) ≡ c + s
      total = omega arith

      row : (r' k : ℕ) → s ≤ r' → c + r' < n → s ≤ limit r' → k < s - s0 → row_at m (row_start w r' + s0) k ≡ factor_entry n a (c + r') (c + s0 + k)
      row r' k low' high' known' few =
          let place : row_start w r' + (s0 + k) ≡ row_start w r' + s0 + k = omega arith in
          let column : c + (s0 + k) ≡ c + s0 + k = omega arith in
          rw (place, column) at (stage.finished r' (s0 + k) (omega arith) high' (omega arith) (omega arith))

  pub panel_pivot : c + s < n → limit s ≡ s → less_panel w s0 m s s ≡ pivot a (columns n a (c + s)) (c + s)
  unfolding pivot
  panel_pivot high here =
      panel_less s (omega arith) high here (omega arith) ∙ sym (row_products n a (c + s) (c + s) (c + s) n (entry a (c + s) (c + s)) (omega arith))

  pub panel_root : c + s < n → limit s ≡ s → root (less_panel w s0 m s s) ≡ factor_entry n a (c + s) (c + s)
  panel_root high here = ap root (panel_pivot high here) ∙ sym (entry_diagonal n a n (c + s) (omega arith))

  pub panel_quotient :
      (r : ℕ) → s < r → c + r < n → limit r ≡ s → s < limit s →
      div binary64 (less_panel w s0 m r s) (get_or m (row_start w s + s) nan) ≡ factor_entry n a (c + r) (c + s)
  unfolding quotient
  panel_quotient r under high here known =
      ap₂ (div binary64)
      (panel_less r (omega arith) high here (omega arith) ∙ sym (row_products n a (c + r) (c + s) (c + s) n (entry a (c + r) (c + s)) (omega arith)))
      (stage.finished s s (omega arith) (omega arith) narrow known ∙ entry_diagonal n a n (c + s) (omega arith))
      ∙ sym (entry_quotient n a n (c + r) (c + s) (omega arith) (omega arith) high)

  -- ---- one column more in some rows

  pub stage_next :
      (from to : ℕ) (limit' : ℕ → ℕ) (m' : List Float) → s ≤ from →
      ((r : ℕ) → from ≤ r → r < to → c + r < n → get_or m' (row_start w r + s) nan ≡ factor_entry n a (c + r) (c + s)) →
      ((p : ℕ) → ((r : ℕ) → from ≤ r → r < to → p ≢ row_start w r + s) → get_or m' p nan ≡ get_or m p nan) →
      ((r : ℕ) → from ≤ r → r < to → limit r ≡ s) → ((r : ℕ) → from ≤ r → r < to → limit' r ≡ s + 1) →
      ((r : ℕ) → r < from → limit' r ≡ limit r) → ((r : ℕ) → to ≤ r → limit' r ≡ limit r) →
      Stage n a c w s0 e limit' m'
  stage_next from to limit' m' under new outside before after above below =
      record {
        finished = λ r k lower high narrow' known. finished r k lower high narrow' known (dec_le from r) (dec_lt r to);
        started = λ r k lower high narrow' over right'. started r k lower high narrow' over right' (dec_le from r) (dec_lt r to);
        entered = λ r k lower high narrow' over.
            kept r k lower narrow' (λ l h z. omega arith) ∙ stage.entered r k lower high narrow' over;
      }
    where
      kept : (r k : ℕ) → k ≤ r → k < w → (from ≤ r → r < to → k ≢ s) → get_or m' (row_start w r + k) nan ≡ get_or m (row_start w r + k) nan
      kept r k lower narrow' out =
          outside (row_start w r + k)
          (λ r' l h z.
          let same : (r ≡ r') × (k ≡ s) = row_apart w r r' k s (omega arith) (omega arith) z in
          out (omega (arith, same.0)) (omega (arith, same.0)) same.1)

      finished :
          (r k : ℕ) → k ≤ r → c + r < n → k < w → k < limit' r → Dec (from ≤ r) → Dec (r < to) →
          get_or m' (row_start w r + k) nan ≡ factor_entry n a (c + r) (c + k)
      finished r k lower high narrow' known (yes l) (yes h) =
          elim (dec_lt k s) [
            | yes p ↦
                kept r k lower narrow' (λ l h z. omega arith)
                ∙ stage.finished r k lower high narrow' (omega (arith, before r l h))
            | no p ↦ let same : k ≡ s = omega (arith, after r l h) in rw same (new r l h high)
          ]
      finished r k lower high narrow' known (no l) d =
          kept r k lower narrow' (λ l' h z. l l') ∙ stage.finished r k lower high narrow' (omega (arith, above r (omega arith)))
      finished r k lower high narrow' known (yes l) (no h) =
          kept r k lower narrow' (λ l h' z. h h') ∙ stage.finished r k lower high narrow' (omega (arith, below r (omega arith)))

      started :
          (r k : ℕ) → k ≤ r → c + r < n → k < w → limit' r ≤ k → k < e → Dec (from ≤ r) → Dec (r < to) →
          get_or m' (row_start w r + k) nan ≡ less_products n a (c + s0) (c + r) (c + k)
      started r k lower high narrow' over right' (yes l) (yes h) =
          kept r k lower narrow' (λ l' h' z. omega (arith, after r l h))
          ∙ stage.started r k lower high narrow' (omega (arith, before r l h, after r l h)) right'
      started r k lower high narrow' over right' (no l) d =
          kept r k lower narrow' (λ l' h z. l l') ∙ stage.started r k lower high narrow' (omega (arith, above r (omega arith))) right'
      started r k lower high narrow' over right' (yes l) (no h) =
          kept r k lower narrow' (λ l h' z. h h') ∙ stage.started r k lower high narrow' (omega (arith, below r (omega arith))) right'

-- ---- the own products of a panel

pub stage_updated :
    (n : ℕ) (a : Triangle) (c w h s0 g : ℕ) (m m' : List Float) → c + h ≡ n → s0 + g ≤ w → w ≤ h → Stage n a c w s0 s0 (all_rows s0) m →
    PanelUpdated 0 w h s0 g (λ q. row_at m (row_start w q)) s0 m m' → Stage n a c w s0 (s0 + g) (all_rows s0) m'
stage_updated n a c w h s0 g m m' order wide tall stage update =
    record {
      finished = λ r s lower high narrow before.
          other r s lower narrow (λ z. omega arith) ∙ stage.finished r s lower high narrow before;
      started = λ r s lower high narrow low up.
          let place : 0 + row_start w r + s ≡ row_start w r + s = omega arith in
          (rw place at (update.inside r s (record { lower = lower; row = omega arith; left = low; right = up })))
          ∙ products_same (row_at m (row_start w r)) (λ i. factor_entry n a (c + r) (c + i)) (row_at m (row_start w s))
          (λ i. factor_entry n a (c + s) (c + i)) s0 (get_or m (row_start w r + s) nan) (λ k few. known r k high (omega arith) few)
          (λ k few. known s k (omega arith) low few)
          ∙ ap (minus_products (λ i. factor_entry n a (c + r) (c + i)) (λ i. factor_entry n a (c + s) (c + i)) s0)
          (stage.entered r s lower high narrow low)
          ∙ sym (minus_add (λ q. factor_entry n a (c + r) q) (λ q. factor_entry n a (c + s) q) c s0 (entry a (c + r) (c + s)));
      entered = λ r s lower high narrow low.
          other r s lower narrow (λ z. omega arith) ∙ stage.entered r s lower high narrow (omega arith);
    }
  where
    other : (r s : ℕ) → s ≤ r → s < w → ((s0 ≤ s) × (s < s0 + g) → ⊥) → get_or m' (row_start w r + s) nan ≡ get_or m (row_start w r + s) nan
    other r s lower narrow out =
        update.outside (row_start w r + s)
        (λ r' s' there z.
        let same : s ≡ s' = (row_apart w r r' s s' (omega arith) (omega (arith, there.lower, there.right)) (omega arith)).1 in
        out (omega (arith, there.left), omega (arith, there.right)))

    known : (r k : ℕ) → c + r < n → s0 ≤ r → k < s0 → row_at m (row_start w r) k ≡ factor_entry n a (c + r) (c + k)
    known r k high low few =
        stage.finished r k (omega arith) high (omega arith) few

-- a panel with all rows finished
pub stage_all :
    (n : ℕ) (a : Triangle) (c w h s0 e : ℕ) (m : List Float) → c + h ≡ n → Stage n a c w s0 e (top_rows s0 e h) m → Stage n a c w e e (all_rows e) m
stage_all n a c w h s0 e m order stage =
    record {
      finished = λ r s lower high narrow under. stage.finished r s lower high narrow (rw (rows_in 0 h e (all_rows s0) r (omega arith) (omega arith)) under);
      started = λ r s lower high narrow over right. absurd (omega arith);
      entered = λ r s lower high narrow over. stage.entered r s lower high narrow over;
    }

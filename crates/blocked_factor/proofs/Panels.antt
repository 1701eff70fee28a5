-- Laws of specs/BlockColumns.antt: filling a row of a panel entry by entry, a panel row by row, and the columns of a block column panel by panel.
-- Assumes nothing.
use Prim.Native.Nat.{ℕ, ◌+◌, ◌-◌, ◌*◌, ◌≤◌, ◌<◌, min}
use native.Mathlib.Omega.{arith}
use native.Mathlib.Decide.{dec_lt}
use mathlib.Core.Path.{◌≡◌, refl, sym, ap, ◌∙◌}
use mathlib.Core.Logic.{◌≢◌}
use mathlib.Core.List.{List}
use lib.ListN.{length, get_or, set}
use lib.Ieee.{Float, nan}
use Rattle.calls.specs.Arithmetic.{minus_products}
use Rattle.calls.proofs.Columns.{products_same}
use Rattle.kernels.specs.Kernels.{Filled, Scattered, row_at, lane_at}
use Rattle.kernels.proofs.Grids.{lane_end}
use Rattle.kernels.proofs.Parts.{filled_next, filled_same}
use Rattle.blocked_factor.specs.BlockColumns.{row_start, LanesHold, Packed, InPanel, PanelUpdated}
use Rattle.blocked_factor.proofs.BlockRows.{row_next, row_mono, row_lt, row_apart}

-- ---- a row

-- the entries of a row less their products, of which the other factors stand in the source's rows from `first` on
pub entries_next :
    (m m' : List Float) (w first x y count t : ℕ) (v : Float) → x + count ≤ y → row_start w (first + t) + count ≤ y → y + t < length m →
    Filled nan y t (λ u. minus_products (row_at m x) (row_at m (row_start w (first + u))) count (get_or m (y + u) nan)) m m' →
    v ≡ minus_products (row_at m' x) (row_at m' (row_start w (first + t))) count (get_or m' (y + t) nan) →
    Filled nan y (t + 1) (λ u. minus_products (row_at m x) (row_at m (row_start w (first + u))) count (get_or m (y + u) nan)) m (set m' (y + t) v)
entries_next m m' w first x y count t v hx hr room filled e =
    let row : ℕ = row_start w (first + t) in
    let new : v ≡ minus_products (row_at m x) (row_at m row) count (get_or m (y + t) nan) =
    e
    ∙ products_same (row_at m' x) (row_at m x) (row_at m' row) (row_at m row) count (get_or m' (y + t) nan)
    (λ k few. filled.before (x + k) (omega arith)) (λ k few. filled.before (row + k) (omega arith))
    ∙ ap (minus_products (row_at m x) (row_at m row) count) (filled.after (y + t) (omega arith))
    in
    filled_next nan y (λ u. minus_products (row_at m x) (row_at m (row_start w (first + u))) count (get_or m (y + u) nan)) m t m' v room filled new

-- by a packed panel
pub filled_packed :
    (m m' panel : List Float) (w first x y len count : ℕ) → LanesHold panel m w first count len →
    Filled nan y len (λ t. minus_products (row_at m x) (lane_at 16 panel t) count (get_or m (y + t) nan)) m m' →
    Filled nan y len (λ t. minus_products (row_at m x) (row_at m (row_start w (first + t))) count (get_or m (y + t) nan)) m m'
filled_packed m m' panel w first x y len count packed filled =
    filled_same nan y len (λ t. minus_products (row_at m x) (lane_at 16 panel t) count (get_or m (y + t) nan))
    (λ t. minus_products (row_at m x) (row_at m (row_start w (first + t))) count (get_or m (y + t) nan)) m m'
    (λ t h.
    products_same (row_at m x) (row_at m x) (lane_at 16 panel t) (row_at m (row_start w (first + t))) count (get_or m (y + t) nan)
    (λ k below. refl) (λ k below. packed t k h below))
    filled

-- ---- packing a panel, row by row

pub packed_none : (panel m : List Float) (at lanes w first count : ℕ) → Packed panel panel at lanes m w first count 0
packed_none panel m at lanes w first count =
    record { size = refl; lane = λ t k h few. absurd (omega arith); before = λ p h. refl }

pub packed_next :
    (panel₀ panel panel' m : List Float) (at lanes w first count t : ℕ) → Packed panel₀ panel at lanes m w first count t → t < lanes →
    Scattered count (λ k. at + lanes * k + t) (row_at m (row_start w (first + t))) panel panel' →
    Packed panel₀ panel' at lanes m w first count (t + 1)
packed_next panel₀ panel panel' m at lanes w first count t before h lane =
    record {
      size = lane.size ∙ before.size;
      lane = λ u k p few.
          elim (dec_lt u t) [
            | yes q ↦ lane.outside (at + lanes * k + u) (λ k' h' e. lanes_apart lanes k k' u t q h (omega arith)) ∙ before.lane u k q few
            | no q ↦ let same : u ≡ t = omega arith in rw same (lane.inside k few)
          ];
      before = λ p low. lane.outside p (λ k g e. omega arith) ∙ before.before p low;
    }
  where
    -- lanes u and t are different
    lanes_apart : (lanes k k' u t : ℕ) → u < t → t < lanes → lanes * k + u ≡ lanes * k' + t → ⊥
    lanes_apart lanes k k' u t less high e =
        elim (dec_lt k' k) [
          | yes p ↦ omega (arith, lane_end lanes k' k p)
          | no p ↦
              elim (dec_lt k k') [
                | yes q ↦ omega (arith, lane_end lanes k k' q)
                | no q ↦ let same : k ≡ k' = omega arith in omega (arith, ap (λ z. lanes * z) same)
              ]
        ]

-- where the panel has 16 lanes from its start on
pub lanes_hold :
    (panel panel' m : List Float) (w first count g : ℕ) → Packed panel panel' 0 16 m w first count g → LanesHold panel' m w first count g
lanes_hold panel panel' m w first count g packed t k h few =
    let at : 16 * k + t ≡ 0 + 16 * k + t = omega arith in
    ap (λ p. get_or panel' p nan) at ∙ packed.lane t k h few

-- ---- the products with a block column's own earlier columns

-- g columns from s0 on of a block column of w columns and h rows, in a memory of `len` values
pub record OwnColumns (len w h s0 g : ℕ) : Type 0 where
  pub wide : s0 + g ≤ w
  pub tall : w ≤ h
  pub room : row_start w h ≤ len

module _ {len w h s0 g : ℕ} (own : OwnColumns len w h s0 g) where
  -- those of an entry are no entries of the panel
  own_apart :
      (r k : ℕ) → s0 ≤ r → r < h → k < s0 → (r' s' : ℕ) → InPanel h s0 g r' s' → row_start w r + k ≢ 0 + row_start w r' + s'
  own_apart r k low high few r' s' there e =
      let same : (r ≡ r') × (k ≡ s') = row_apart w r r' k s' (omega (arith, own.wide)) (omega (arith, own.wide)) (omega arith) in
      omega (arith, there.left)

  -- the panel's rows are within the memory
  pub row_room : (r : ℕ) → s0 ≤ r → r < h → row_start w r + s0 + min g (r + 1 - s0) ≤ len
  row_room r low high = omega (arith, row_next w r, row_mono w (r + 1) h (omega arith), own.wide, own.room)

-- ---- a panel, row by row

pub panel_none :
    {at w h s0 g : ℕ} {x : ℕ → ℕ → Float} {count : ℕ} {m : List Float} → ((r s : ℕ) → InPanel h s0 g r s → ⊥) → PanelUpdated at w h s0 g x count m m
panel_none none = record { kept = refl; inside = λ r s e. absurd (none r s e); outside = λ p h. refl }

module _
    {w h s0 g : ℕ} {m m₁ : List Float} (own : OwnColumns (length m) w h s0 g) (r : ℕ) (low : s0 ≤ r)
    (high : r < h) (before : PanelUpdated 0 w r s0 g (λ q. row_at m (row_start w q)) s0 m m₁) where
  abbrev x : ℕ → ℕ → Float
  x = λ q. row_at m (row_start w q)

  -- the source is as it was
  own_kept : (r' k : ℕ) → s0 ≤ r' → r' < h → k < s0 → row_at m₁ (row_start w r') k ≡ x r' k
  own_kept r' k l q few =
      before.outside (row_start w r' + k)
      (λ r'' s'' e. own_apart own r' k l q few r'' s'' (record { lower = e.lower; row = omega (arith, e.row); left = e.left; right = e.right }))

  -- and so is the row
  row_kept : (s : ℕ) → s ≤ r → s < s0 + g → get_or m₁ (row_start w r + s) nan ≡ get_or m (row_start w r + s) nan
  row_kept s lower right =
      before.outside (row_start w r + s)
      (λ r' s' e p.
      let same : (r ≡ r') × (s ≡ s') =
      row_apart w r r' s s' (omega (arith, own.wide)) (omega (arith, own.wide, e.lower, e.right)) (omega arith)
      in
      omega (arith, e.row))

  -- a packed panel holds what the row's products need
  pub lanes_kept : (panel : List Float) → LanesHold panel m w s0 s0 g → LanesHold panel m₁ w s0 s0 (min g (r + 1 - s0))
  lanes_kept panel packed t k few p = packed t k (omega arith) p ∙ sym (own_kept (s0 + t) k (omega arith) (omega (arith, own.wide, own.tall)) p)

  module _
      {m₂ : List Float}
      (filled :
      Filled nan (row_start w r + s0) (min g (r + 1 - s0))
      (λ t. minus_products (row_at m₁ (row_start w r)) (row_at m₁ (row_start w (s0 + t))) s0 (get_or m₁ (row_start w r + s0 + t) nan)) m₁ m₂) where
    entry_updated :
        (s : ℕ) → s ≤ r → s0 ≤ s → s < s0 + g → get_or m₂ (row_start w r + s) nan ≡ minus_products (x r) (x s) s0 (get_or m (row_start w r + s) nan)
    entry_updated s lower left right =
        let place : row_start w r + s0 + (s - s0) ≡ row_start w r + s = omega arith in
        let row : s0 + (s - s0) ≡ s = omega arith in
        let new : get_or m₂ (row_start w r + s0 + (s - s0)) nan
        ≡ minus_products (row_at m₁ (row_start w r)) (row_at m₁ (row_start w (s0 + (s - s0)))) s0 (get_or m₁ (row_start w r + s0 + (s - s0)) nan) =
        filled.inside (s - s0) (omega arith)
        in
        (rw (place, row) at new)
        ∙ products_same (row_at m₁ (row_start w r)) (x r) (row_at m₁ (row_start w s)) (x s) s0 (get_or m₁ (row_start w r + s) nan)
        (λ k few. own_kept r k low high few) (λ k few. own_kept s k left (omega arith) few)
        ∙ ap (minus_products (x r) (x s) s0) (row_kept s lower right)

    pub panel_next : PanelUpdated 0 w (r + 1) s0 g x s0 m m₂
    panel_next =
        record {
          kept = filled.size ∙ before.kept;
          inside = λ r' s' e.
              let here : 0 + row_start w r' + s' ≡ row_start w r' + s' = omega arith in
              elim (dec_lt r' r) [
                | yes p ↦
                    filled.before (0 + row_start w r' + s') (omega (arith, row_lt w r' r s' p (omega (arith, own.wide, e.lower, e.right))))
                    ∙ before.inside r' s' (record { lower = e.lower; row = p; left = e.left; right = e.right })
                | no p ↦
                    let same : r' ≡ r = omega (arith, e.row) in
                    rw (here, same) (entry_updated s' (omega (arith, e.lower)) e.left e.right)
              ];
          outside = λ p none.
              outside_row p none (dec_lt p (row_start w r + s0)) (dec_lt p (row_start w r + s0 + min g (r + 1 - s0)))
              ∙ before.outside p (λ r' s' e. none r' s' (record { lower = e.lower; row = omega (arith, e.row); left = e.left; right = e.right }));
        }
      where
        outside_row :
            (p : ℕ) → ((r' s' : ℕ) → InPanel (r + 1) s0 g r' s' → p ≢ 0 + row_start w r' + s') → Dec (p < row_start w r + s0) →
            Dec (p < row_start w r + s0 + min g (r + 1 - s0)) → get_or m₂ p nan ≡ get_or m₁ p nan
        outside_row p none (yes q) d = filled.before p q
        outside_row p none (no q) (no z) = filled.after p (omega arith)
        outside_row p none (no q) (yes z) =
            let s : ℕ = p - row_start w r in
            let here : InPanel (r + 1) s0 g r s = record { lower = omega arith; row = omega arith; left = omega arith; right = omega arith } in
            absurd (none r s here (omega arith))

-- ---- the columns of a block column, panel by panel

module _
    {at w h count s0 g : ℕ} {x x₁ : ℕ → ℕ → Float} {m m₁ m₂ : List Float} (wide : s0 + g ≤ w)
    (same : (r k : ℕ) → r < h → k < count → x₁ r k ≡ x r k) (before : PanelUpdated at w h 0 s0 x count m m₁)
    (after : PanelUpdated at w h s0 g x₁ count m₁ m₂) where
  columns_apart :
      (r s r' s' : ℕ) → s ≤ r → s < w → s' ≤ r' → s' < w → s ≢ s' → at + row_start w r + s ≢ at + row_start w r' + s'
  columns_apart r s r' s' a b a' b' ne e = ne (row_apart w r r' s s' (omega arith) (omega arith) (omega arith)).1

  columns_inside :
      (r s : ℕ) → InPanel h 0 (s0 + g) r s → Dec (s < s0) →
      get_or m₂ (at + row_start w r + s) nan ≡ minus_products (x r) (x s) count (get_or m (at + row_start w r + s) nan)
  columns_inside r s e (yes left) =
      after.outside (at + row_start w r + s)
      (λ r' s' e'. columns_apart r s r' s' e.lower (omega arith) e'.lower (omega (arith, e'.right)) (λ z. omega (arith, e'.left)))
      ∙ before.inside r s (record { lower = e.lower; row = e.row; left = omega arith; right = omega arith })
  columns_inside r s e (no right) =
      after.inside r s (record { lower = e.lower; row = e.row; left = omega arith; right = omega (arith, e.right) })
      ∙ products_same (x₁ r) (x r) (x₁ s) (x s) count (get_or m₁ (at + row_start w r + s) nan) (λ k few. same r k e.row few)
      (λ k few. same s k (omega (arith, e.lower, e.row)) few)
      ∙ ap (minus_products (x r) (x s) count)
      (before.outside (at + row_start w r + s)
      (λ r' s' e'.
      columns_apart r s r' s' e.lower (omega (arith, e.right)) e'.lower (omega (arith, e'.right)) (λ z. omega (arith, e'.right))))

  pub columns_next : PanelUpdated at w h 0 (s0 + g) x count m m₂
  columns_next =
      record {
        kept = after.kept ∙ before.kept;
        inside = λ r s e. columns_inside r s e (dec_lt s s0);
        outside = λ p none.
            after.outside p
            (λ r s e. none r s (record { lower = e.lower; row = e.row; left = omega arith; right = omega (arith, e.right) }))
            ∙ before.outside p
            (λ r s e. none r s (record { lower = e.lower; row = e.row; left = omega arith; right = omega (arith, e.right) }));
      }

-- The turns of the substitutions on a block column of blocked memory; where its entries are is in BlockPlaces. Assumes nothing.
use Prim.Native.Nat.{ℕ, ◌+◌, ◌-◌, ◌≤◌, ◌<◌}
use native.Mathlib.Nat.{zero-add}
use native.Mathlib.Omega.{arith}
use mathlib.Core.Path.{◌≡◌, refl, sym, ap, ap₂, ◌∙◌}
use mathlib.Core.List.{List, ◌++◌}
use lib.ListN.{length, get_or, set, take, drop, length-set}
use lib.Ieee.{Float, nan, binary64, sub, mul, div}
use Rattle.shape.specs.Places.{place_in_block}
use Rattle.calls.specs.Arithmetic.{minus_products}
use Rattle.kernels.specs.Kernels.{Replaced, MultipleSubtracted, rising_from}
use Rattle.kernels.proofs.Parts.{get_d_part, length_part, part_replaced}
use Rattle.kernels.proofs.Products.{minus_next, rising_prefix}
use Rattle.solve.specs.declared.block_column.BlockColumn.{BlockColumn}
use Rattle.solve.specs.Parts.{block_entries}
use Rattle.solve.specs.Substitution.{TriangleForward, RowsSubtracted, RowTaken, ColumnsSubtracted}
use Rattle.solve.proofs.BlockPlaces.{row_place, row_entries, row_entries_from, before_inside}
use Rattle.solve.proofs.Rows.{replaced_of_filled, rows_next}
use Rattle.solve.proofs.Triangles.{forward_next, TakenFrom, taken_next}

-- ---- forward

module _ (block : BlockColumn) (v₀ v : List Float) (size : length v₀ ≡ block.h) where
  abbrev coefficient : ℕ → ℕ → Float
  coefficient = block_entries block

  pub triangle_row :
      (r at : ℕ) (value : Float) → r < block.w → at ≡ row_place block r → value ≡ rising_from block.part.now at (take r v) (length (take r v)) (get_or v r nan) →
      TriangleForward coefficient r v₀ v → TriangleForward coefficient (r + 1) v₀ (set v r (div binary64 value (get_or block.part.now (at + r) nan)))
  triangle_row r at value less place e s =
      rw (row_entries block r at r place)
      (forward_next coefficient r v₀ v value (omega arith) s
      (e ∙ rising_prefix (λ k. coefficient r k) block.part.now v at r (get_or v r nan) (omega (arith, s.size)) (λ k p. row_entries block r at k place)))

  pub under_row :
      (from r at : ℕ) (value : Float) → block.w ≤ from → from ≤ r → r < block.h → at ≡ row_place block r →
      value ≡ rising_from block.part.now at (take block.w v) (length (take block.w v)) (get_or v r nan) →
      RowsSubtracted coefficient block.w from r v₀ v → RowsSubtracted coefficient block.w from (r + 1) v₀ (set v r value)
  under_row from r at value low le less place e s =
      rows_next coefficient block.w from r v₀ v value low le (omega arith) s
      (e ∙ rising_prefix (λ k. coefficient r k) block.part.now v at block.w (get_or v r nan) (omega (arith, s.size)) (λ k p. row_entries block r at k place))

-- ---- backward

row_taken :
    (coefficient : ℕ → ℕ → Float) (q from count to at end : ℕ) (part v u : List Float) (x : Float) →
    from + count ≡ to → to ≤ length v → at + count ≡ end →
    ((i : ℕ) → i < count → get_or part (at + i) nan ≡ coefficient q (from + i)) →
    MultipleSubtracted (take count (drop from v)) (take (end - at) (drop at part)) x u →
    RowTaken coefficient q x from to v (take from v ++ (u ++ drop count (drop from v)))
row_taken coefficient q from count to at end part v u x rows fits values same subtracted =
    let size : length (take count (drop from v)) ≡ count = length_part nan from count v (omega arith) in
    replaced_of_filled _ (λ i. get_or u i nan) from count to v _ rows (part_replaced nan from count v u (omega arith) (subtracted.size ∙ size))
    (λ i p.
    subtracted.value i (omega arith)
    ∙ ap₂ (λ t a. sub binary64 t (mul binary64 a x)) (get_d_part nan from count v i p) (get_d_part nan at (end - at) part i (omega arith) ∙ same i p))

-- a row below the triangle
pub row_under :
    (block : BlockColumn) (r from at : ℕ) (v u : List Float) (x : Float) → from ≤ block.w → block.w ≤ length v →
    at ≡ place_in_block (block.skip + block.w) (block.skip + r) (block.skip + from) →
    MultipleSubtracted (take (block.w - from) (drop from v)) (take (at + (block.w - from) - at) (drop at block.part.now)) x u →
    RowTaken (block_entries block) r x from block.w v (take from v ++ (u ++ drop (block.w - from) (drop from v)))
row_under block r from at v u x le fits place subtracted =
    row_taken (block_entries block) r from (block.w - from) block.w at (at + (block.w - from)) block.part.now v u x (omega arith) fits refl
    (λ i p. row_entries_from block r from at i place) subtracted

-- a row of the triangle
pub row_inside_up :
    (block : BlockColumn) (r at up : ℕ) (v₀ v u : List Float) (x : Float) → length v₀ ≡ block.h → 0 < r → r ≤ block.w →
    at ≡ row_place block r → up ≡ at - (block.skip + r) →
    x ≡ div binary64 (get_or v (r - 1) nan) (get_or block.part.now (up + (r - 1)) nan) → TakenFrom (block_entries block) block.w r v₀ v →
    MultipleSubtracted (take (r - 1) (set v (r - 1) x)) (take (up + (r - 1) - up) (drop up block.part.now)) x u →
    (up ≡ row_place block (r - 1)) × TakenFrom (block_entries block) block.w (r - 1) v₀ (u ++ drop (r - 1) (set v (r - 1) x))
row_inside_up block r at up v₀ v u x size pos le place back e s subtracted =
    let q : ℕ = r - 1 in
    let next : q + 1 ≡ r = omega arith in
    let start : up ≡ row_place block q = back ∙ (before_inside block r at pos le place).1 in (
      start,
      taken_next (block_entries block) block.w q v₀ v (u ++ drop q (set v q x)) x (omega arith) (omega arith)
          (e ∙ ap (div binary64 (get_or v q nan)) (row_entries block q up q start)) (rw next s)
          (row_taken (block_entries block) q 0 q q up (up + q) block.part.now (set v q x) u x (omega arith)
          (omega (arith, s.size, length-set v q x)) refl (λ i p. row_entries block q up i start ∙ ap (block_entries block q) (sym (zero-add i))) subtracted),
    )

-- rows s to s + 15 less the products of the last k rows, as sixteen values
abbrev pub Less16 : (ℕ → ℕ → Float) → ℕ → ℕ → ℕ → List Float → List Float → Type 0
Less16 coefficient h k s v values =
    (i : ℕ) → i < 16 →
    get_or values i nan ≡ minus_products (λ q. coefficient (h - 1 - q) (s + i)) (λ q. get_or v (h - 1 - q) nan) k (get_or v (s + i) nan)

module _ (block : BlockColumn) (h k s : ℕ) (v values : List Float) (so : Less16 (block_entries block) h k s v values) where
  pub less16_next :
      (at : ℕ) (next : List Float) → at ≡ place_in_block (block.skip + block.w) (block.skip + (h - 1 - k)) (block.skip + s) →
      ((i : ℕ) → i < 16 → get_or next i nan ≡ sub binary64 (get_or values i nan) (mul binary64 (get_or block.part.now (at + i) nan) (get_or v (h - 1 - k) nan))) →
      Less16 (block_entries block) h (k + 1) s v next
  less16_next at next place step i p =
      step i p
      ∙ ap₂ (λ t a. sub binary64 t (mul binary64 a (get_or v (h - 1 - k) nan))) (so i p) (row_entries_from block (h - 1 - k) s at i place)
      ∙ sym (minus_next (λ q. block_entries block (h - 1 - q) (s + i)) (λ q. get_or v (h - 1 - q) nan) k (get_or v (s + i) nan))

  pub columns16_done : (v' : List Float) → Replaced nan s 16 v values v' → ColumnsSubtracted (block_entries block) h k s (s + 16) v v'
  columns16_done v' whole = replaced_of_filled _ (λ i. get_or values i nan) s 16 (s + 16) v v' refl whole so

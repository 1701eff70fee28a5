-- Rows that are replaced, some after others: those below a triangle forward, and those of a triangle backward. Assumes nothing.
use Prim.Native.Nat.{ℕ, ◌+◌, ◌-◌, ◌≤◌, ◌<◌}
use native.Mathlib.Omega.{arith}
use native.Mathlib.Decide.{dec_lt}
use mathlib.Core.Path.{◌≡◌, refl, sym, ap, ap₂, ◌∙◌}
use mathlib.Core.List.{List}
use lib.ListN.{length, get_or, set, length-set}
use lib.Seq.{get_or-set_same, get_or-set_other}
use lib.Ieee.{Float, nan, binary64, sub, mul}
use Rattle.calls.specs.Arithmetic.{minus_products}
use Rattle.calls.proofs.Columns.{products_same, minus_add}
use Rattle.kernels.specs.Kernels.{Filled}
use Rattle.kernels.proofs.Products.{minus_none, minus_next}
use Rattle.solve.specs.Substitution.{RowsReplaced, RowsSubtracted, RowTaken, ColumnsSubtracted}

-- ---- any rows

pub replaced_none : (value : ℕ → Float) (from : ℕ) (v : List Float) → RowsReplaced value from from v v
replaced_none value from v =
    record { size = refl; inside = λ r p h. absurd (omega arith); before = λ r h. refl; after = λ r h. refl }

-- the second run's values are the same before the first
replaced_join :
    (value : List Float → ℕ → Float) (from mid to : ℕ) (v u v' : List Float) → from ≤ mid → mid ≤ to →
    ((r : ℕ) → mid ≤ r → r < to → value u r ≡ value v r) →
    RowsReplaced (value v) from mid v u → RowsReplaced (value u) mid to u v' → RowsReplaced (value v) from to v v'
replaced_join value from mid to v u v' le le' same one two =
    record {
      size = two.size ∙ one.size;
      inside = λ r p h.
          elim (dec_lt r mid) [
            | yes low ↦ two.before r low ∙ one.inside r p low
            | no high ↦ two.inside r (omega arith) h ∙ same r (omega arith) h
          ];
      before = λ r h. two.before r (omega arith) ∙ one.before r h;
      after = λ r h. two.after r h ∙ one.after r (omega arith);
    }

pub replaced_of_filled :
    (value f : ℕ → Float) (from count to : ℕ) (v v' : List Float) → from + count ≡ to → Filled nan from count f v v' →
    ((i : ℕ) → i < count → f i ≡ value (from + i)) → RowsReplaced value from to v v'
replaced_of_filled value f from count to v v' end filled same =
    record {
      size = filled.size;
      inside = λ r p h.
          let at : from + (r - from) ≡ r = omega arith in
          rw at at (filled.inside (r - from) (omega arith) ∙ same (r - from) (omega arith));
      before = filled.before;
      after = λ r h. filled.after r (omega arith);
    }

module _ (coefficient : ℕ → ℕ → Float) where
  -- ---- below a triangle, forward

  pub rows_join :
      (w from mid to : ℕ) (v u v' : List Float) → w ≤ from → from ≤ mid → mid ≤ to →
      RowsSubtracted coefficient w from mid v u → RowsSubtracted coefficient w mid to u v' → RowsSubtracted coefficient w from to v v'
  rows_join w from mid to v u v' low le le' one two =
      replaced_join (λ x r. minus_products (λ k. coefficient r k) (λ k. get_or x k nan) w (get_or x r nan)) from mid to v u v' le le'
      (λ r p h.
      ap (minus_products (λ k. coefficient r k) (λ k. get_or u k nan) w) (one.after r p)
      ∙ products_same (λ k. coefficient r k) (λ k. coefficient r k) (λ k. get_or u k nan) (λ k. get_or v k nan) w (get_or v r nan)
      (λ k q. refl) (λ k q. one.before k (omega arith)))
      one two

  pub rows_next :
      (w from r : ℕ) (v₀ v : List Float) (value : Float) → w ≤ from → from ≤ r → r < length v₀ → RowsSubtracted coefficient w from r v₀ v →
      value ≡ minus_products (λ k. coefficient r k) (λ k. get_or v k nan) w (get_or v r nan) → RowsSubtracted coefficient w from (r + 1) v₀ (set v r value)
  rows_next w from r v₀ v value low le h s e =
      rows_join w from r (r + 1) v₀ v (set v r value) low le (omega arith) s
      (record {
        size = length-set v r value;
        inside = λ q p k. let here : q ≡ r = omega arith in rw here (get_or-set_same v r value nan (omega (arith, s.size)) ∙ e);
        before = λ q p. get_or-set_other v r q value nan (λ g. omega arith);
        after = λ q p. get_or-set_other v r q value nan (λ g. omega arith);
      })

  -- ---- of a triangle, backward

  pub columns_none : (h from to : ℕ) (v : List Float) → ColumnsSubtracted coefficient h 0 from to v v
  columns_none h from to v =
      record { size = refl; inside = λ r p q. sym (minus_none _ _ _); before = λ r p. refl; after = λ r p. refl }

  pub columns_join :
      (h count from mid to : ℕ) (v u v' : List Float) → from ≤ mid → mid ≤ to → to + count ≤ h →
      ColumnsSubtracted coefficient h count from mid v u → ColumnsSubtracted coefficient h count mid to u v' →
      ColumnsSubtracted coefficient h count from to v v'
  columns_join h count from mid to v u v' le le' under one two =
      replaced_join (λ x r. minus_products (λ k. coefficient (h - 1 - k) r) (λ k. get_or x (h - 1 - k) nan) count (get_or x r nan))
      from mid to v u v' le le'
      (λ r p q.
      ap (minus_products (λ k. coefficient (h - 1 - k) r) (λ k. get_or u (h - 1 - k) nan) count) (one.after r p)
      ∙ products_same (λ k. coefficient (h - 1 - k) r) (λ k. coefficient (h - 1 - k) r) (λ k. get_or u (h - 1 - k) nan) (λ k. get_or v (h - 1 - k) nan)
      count (get_or v r nan) (λ k i. refl) (λ k i. one.after (h - 1 - k) (omega arith)))
      one two

  -- the next row up
  pub columns_next :
      (h k from to : ℕ) (v₀ v v' : List Float) → to + k < h → ColumnsSubtracted coefficient h k from to v₀ v →
      RowTaken coefficient (h - 1 - k) (get_or v (h - 1 - k) nan) from to v v' → ColumnsSubtracted coefficient h (k + 1) from to v₀ v'
  columns_next h k from to v₀ v v' under s row =
      record {
        size = row.size ∙ s.size;
        inside = λ r p q.
            row.inside r p q
            ∙ ap₂ (λ t x. sub binary64 t (mul binary64 (coefficient (h - 1 - k) r) x)) (s.inside r p q) (s.after (h - 1 - k) (omega arith))
            ∙ sym (minus_next (λ i. coefficient (h - 1 - i) r) (λ i. get_or v₀ (h - 1 - i) nan) k (get_or v₀ r nan));
        before = λ r p. row.before r p ∙ s.before r p;
        after = λ r p. row.after r p ∙ s.after r p;
      }

  -- the next rows up
  pub columns_add :
      (h k count from to : ℕ) (v u v' : List Float) → to + (k + count) ≤ h → ColumnsSubtracted coefficient h k from to v u →
      ColumnsSubtracted coefficient (h - k) count from to u v' → ColumnsSubtracted coefficient h (k + count) from to v v'
  columns_add h k count from to v u v' under one two =
      record {
        size = two.size ∙ one.size;
        inside = λ r p q.
            two.inside r p q
            ∙ products_same (λ i. coefficient (h - k - 1 - i) r) (λ i. coefficient (h - 1 - (k + i)) r)
            (λ i. get_or u (h - k - 1 - i) nan) (λ i. get_or v (h - 1 - (k + i)) nan) count (get_or u r nan)
            (λ i few. ap (λ z. coefficient z r) (up i)) (λ i few. one.after (h - k - 1 - i) (omega arith) ∙ ap (λ z. get_or v z nan) (up i))
            ∙ ap (minus_products (λ i. coefficient (h - 1 - (k + i)) r) (λ i. get_or v (h - 1 - (k + i)) nan) count) (one.inside r p q)
            ∙ sym (minus_add (λ i. coefficient (h - 1 - i) r) (λ i. get_or v (h - 1 - i) nan) k count (get_or v r nan));
        before = λ r p. two.before r p ∙ one.before r p;
        after = λ r p. two.after r p ∙ one.after r p;
      }
    where
      up : (i : ℕ) → h - k - 1 - i ≡ h - 1 - (k + i)
      up i = omega arith

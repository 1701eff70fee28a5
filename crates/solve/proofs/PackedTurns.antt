-- The turns of the substitutions on packed memory. Assumes nothing.
use Prim.Native.Nat.{ℕ, ◌+◌, ◌-◌, ◌≤◌, ◌<◌}
use native.Mathlib.Omega.{arith}
use mathlib.Core.Path.{◌≡◌, refl, sym, ap, ap₂, ◌∙◌, subst}
use mathlib.Core.List.{List}
use lib.ListN.{length, get_or, set, take, drop, length-set}
use Rattle.std.proofs.lemmas.List.{take_rest}
use lib.Seq.{get_or-set_same, get_or-set_other}
use lib.Ieee.{Float, nan, binary64, sub, mul, div}
use Rattle.shape.specs.Places.{triangle, packed_place, block_start}
use Rattle.shape.proofs.Bounds.{block_start_le}
use Rattle.shape.proofs.Columns.{block_start_next, packed_place_diagonal, packed_place_column, triangle_rest}
use Rattle.calls.specs.Arithmetic.{minus_products}
use Rattle.calls.specs.Triangles.{height, load, load_from}
use Rattle.kernels.specs.Kernels.{Replaced, MultipleSubtracted, falling_from}
use Rattle.kernels.proofs.Parts.{get_d_part}
use Rattle.kernels.proofs.Products.{minus_none, minus_next, falling_part}
use Rattle.solve.specs.declared.packed.Packed.{Packed}
use Rattle.solve.specs.Parts.{packed_entries, packed_factor}
use Rattle.solve.specs.Substitution.{entries_at, ForwardDone, ProductsSubtracted, BackwardDone}
use Rattle.solve.proofs.Factors.{column_agrees, packed_agrees, packed_trailing}
use Rattle.solve.proofs.Substitution.{Agrees, ForwardTo, BackwardTo, lent, returned, length_lent, returned_whole, forward_lent, backward_lent}
use Rattle.solve.proofs.Triangles.{BackwardRows, backward_next}

-- ---- one column forward

pub column_done :
    (column v part' : List Float) (y : Float) → 0 < length v → length column ≡ length v → y ≡ div binary64 (get_or v 0 nan) (get_or column 0 nan) →
    MultipleSubtracted (lent 1 (set v 0 y)) (lent 1 column) y part' →
    ForwardDone (entries_at (λ r s. r) column) (length v) 1 v (returned 1 (set v 0 y) part')
column_done column v part' y pos same e subtracted =
    record {
      size = whole.size ∙ length-set v 0 y;
      inside = λ r h.
          let first : r ≡ 0 = omega arith in
          rw first (top ∙ e ∙ ap (λ t. div binary64 t (get_or column 0 nan)) (sym (minus_none _ _ _)));
      under = λ r low h.
          let at : 1 + (r - 1) ≡ r = omega arith in
          let size : length v₁ ≡ length v = length-set v 0 y in
          ap (λ q. get_or v' q nan) (sym at) ∙ whole.inside (r - 1) (omega arith)
          ∙ subtracted.value (r - 1) (omega (arith, length_lent (length v) 1 v₁ size pos))
          ∙ ap₂ (λ t u. sub binary64 t (mul binary64 u y))
          (get_d_part nan 1 (length v₁ - 1) v₁ (r - 1) (omega arith) ∙ ap (λ q. get_or v₁ q nan) at ∙ get_or-set_other v 0 r y nan (λ g. omega arith))
          (get_d_part nan 1 (length column - 1) column (r - 1) (omega arith) ∙ ap (λ q. get_or column q nan) at)
          ∙ ap₂ (λ t u. sub binary64 t (mul binary64 (get_or column r nan) u))
          (sym (minus_none (λ k. get_or column r nan) (λ k. get_or v' k nan) _)) (sym top)
          ∙ sym (minus_next (λ k. get_or column r nan) (λ k. get_or v' k nan) 0 (get_or v r nan));
    }
  where
    v₁ : List Float
    v₁ = set v 0 y

    v' : List Float
    v' = returned 1 v₁ part'

    whole : Replaced nan 1 (length v - 1) v₁ part' v'
    whole = returned_whole (length v) 1 v₁ part' (length-set v 0 y) pos subtracted.size

    top : get_or v' 0 nan ≡ y
    top = whole.before 0 (omega arith) ∙ get_or-set_same v 0 y nan pos

-- ---- one row of the triangle backward

packed_place_down : (n i m j : ℕ) → packed_place n (i + m) j ≡ packed_place n i j + m
unfolding packed_place
packed_place_down n i m j = omega arith

-- column r − 1 ends inside the triangle
pub column_room : (h r : ℕ) → 0 < r → r ≤ h → packed_place h (r - 1) (r - 1) + (h - (r - 1)) ≤ triangle h
column_room h r pos le =
    let back : r - 1 + 1 ≡ r = omega arith in
    omega (arith, packed_place_diagonal h (r - 1) (omega arith), rw back at (block_start_next h (r - 1) (omega arith)), block_start_le h r le)

pub triangle_turn :
    (h w r at : ℕ) (part v₀ v : List Float) (value : Float) → 0 < r → r ≤ w → w ≤ h → length v₀ ≡ h → at ≡ packed_place h (r - 1) (r - 1) →
    value ≡ falling_from part (at + 1) (take (w - r) (drop r v)) (length (take (w - r) (drop r v))) (get_or v (r - 1) nan) →
    BackwardRows (entries_at (packed_place h) part) w r v₀ v →
    BackwardRows (entries_at (packed_place h) part) w (r - 1) v₀ (set v (r - 1) (div binary64 value (get_or part at nan)))
triangle_turn h w r at part v₀ v value pos le full size place e s =
    let q : ℕ = r - 1 in
    let back : q + 1 ≡ r = omega arith in
    let count : w - r ≡ w - 1 - q = omega arith in
    rw place
    (backward_next (entries_at (packed_place h) part) w q v₀ v value (omega arith) (omega arith) (rw back s)
    (e
    ∙ falling_part (λ i. get_or part (packed_place h i q) nan) part v (at + 1) r (w - r) w (get_or v q nan) (omega arith) (omega (arith, s.size))
    (λ i p. ap (λ a. get_or part a nan) (below i))
    ∙ ap (λ m. minus_products (λ k. get_or part (packed_place h (w - 1 - k) q) nan) (λ k. get_or v (w - 1 - k) nan) m (get_or v q nan)) count))
  where
    below : (i : ℕ) → at + 1 + i ≡ packed_place h (r + i) (r - 1)
    below i =
        let up : r - 1 + (1 + i) ≡ r + i = omega arith in
        omega (arith, packed_place_down h (r - 1) (1 + i) (r - 1), ap (λ a. packed_place h a (r - 1)) up)

-- ---- the rows under the first eight

pub under8_done :
    (h : ℕ) (part v values reduced v' : List Float) (starts : ℕ → ℕ) → 8 ≤ h → length v ≡ h →
    ((s : ℕ) → s < 8 → get_or values s nan ≡ get_or v (0 + s) nan) → ((s : ℕ) → s < 8 → starts s ≡ packed_place h 8 s) →
    ((s : ℕ) → s < 8 →
    get_or reduced s nan
    ≡ falling_from part (starts s) (take (length v - 8) (drop 8 v)) (length (take (length v - 8) (drop 8 v))) (get_or values s nan)) →
    Replaced nan 0 8 v reduced v' → ProductsSubtracted (entries_at (packed_place h) part) h 8 v v'
under8_done h part v values reduced v' starts full size loaded placed subtracted whole =
    record {
      size = whole.size;
      inside = λ r low p.
          let none : 0 + r ≡ r = omega arith in
          let rows : length v - 8 ≡ h - 8 = omega arith in
          ap (λ q. get_or v' q nan) (sym none) ∙ whole.inside r p ∙ subtracted r p
          ∙ falling_part (λ i. get_or part (packed_place h i r) nan) part v (starts r) 8 (length v - 8) h (get_or values r nan) (omega arith) (omega arith)
          (λ i q. ap (λ a. get_or part a nan) (ap (λ a. a + i) (placed r p) ∙ sym (packed_place_down h 8 i r)))
          ∙ ap₂ (minus_products (λ k. get_or part (packed_place h (h - 1 - k) r) nan) (λ k. get_or v (h - 1 - k) nan)) rows
          (loaded r p ∙ ap (λ q. get_or v q nan) none);
      before = λ r p. absurd (omega arith);
      after = λ r p. whole.after r (omega arith);
    }

pub under8_room : (h s : ℕ) → s < 8 → 8 ≤ h → packed_place h 8 s + (h - 8) ≤ triangle h
under8_room h s less full =
    omega (arith, packed_place_column h 8 s (omega arith) (omega arith), block_start_next h s (omega arith), block_start_le h (s + 1) (omega arith))

-- ---- a turn of each substitution

pub forward_turn :
    (n k at : ℕ) (matrix rhs work v' : List Float) → k < n → at ≡ block_start n k →
    ForwardTo n (load (packed_place n) (height n) n matrix) rhs k work →
    ForwardDone (entries_at (λ r s. r) (take (at + (n - k) - at) (drop at matrix))) (length (lent k work)) 1 (lent k work) v' →
    ForwardTo n (load (packed_place n) (height n) n matrix) rhs (k + 1) (returned k work v')
forward_turn n k at matrix rhs work v' less place state done =
    let rows : at + (n - k) - at ≡ n - k = omega arith in
    forward_lent n k 1 (load (packed_place n) (height n) n matrix) rhs work v'
    (entries_at (λ r s. r) (take (at + (n - k) - at) (drop at matrix))) (omega arith)
    (rw (rows, place) (column_agrees n k matrix (n - k) less (omega arith))) state
    (rw (length_lent n k work state.size (omega arith)) at done)

module _ (f part : Packed) (c w : ℕ) (fits : c + w ≤ f.order) (rows : part.order ≡ f.order - c)
    (values : part.matrix.now ≡ drop (block_start f.order c) f.matrix.now) (y work v' : List Float) where
  pub backward_turn :
      BackwardTo f.order (packed_factor f) y (c + w) work → BackwardDone (packed_entries part) part.order w (lent c work) v' →
      BackwardTo f.order (packed_factor f) y c (returned c work v')
  backward_turn state done =
      backward_lent f.order c w (packed_factor f) y work v' (packed_entries part) fits agrees state
      (subst (λ h. BackwardDone (packed_entries part) h w (lent c work) v') rows done)
    where
      agrees : Agrees f.order c w (packed_factor f) (packed_entries part)
      agrees =
          rw (rows, values ∙ sym (take_rest f.matrix.now (block_start f.order c)))
          (packed_agrees f.order c f.matrix.now (length f.matrix.now - block_start f.order c) w fits
          (omega (arith, f.values, triangle_rest f.order c (omega arith))))

-- the columns from column c on
pub trailing_packed :
    (f part : Packed) (c : ℕ) → c ≤ f.order → (part.order ≡ f.order - c) × (part.matrix.now ≡ drop (block_start f.order c) f.matrix.now) →
    packed_factor part ≡ load_from c (packed_place f.order) f.order f.matrix.now
trailing_packed f part c le is =
    rw (is.0, is.1 ∙ sym (take_rest f.matrix.now (block_start f.order c)))
    (packed_trailing f.order c (block_start f.order c) f.matrix.now le f.values refl)

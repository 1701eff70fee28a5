-- The turns of the substitutions on a run of block columns. Assumes nothing.
use Prim.Native.Nat.{ℕ, ◌+◌, ◌-◌, ◌*◌, ◌≤◌, ◌<◌, min}
use native.Mathlib.Nat.{zero-add}
use native.Mathlib.Omega.{arith}
use native.Mathlib.Decide.{dec_lt}
use mathlib.Core.Path.{◌≡◌, refl, sym, ap, ap₂, ◌∙◌, subst}
use mathlib.Core.Logic.{inl, inr}
use mathlib.Core.List.{List, ◌++◌}
use lib.ListN.{length, get_or, take, drop}
use Rattle.std.proofs.lemmas.List.{take_rest}
use lib.Seq.{get_or-take}
use lib.Ieee.{Float, nan, binary64, div}
use Rattle.shape.specs.Places.{block_of, block_start, width, blocked_place}
use Rattle.shape.proofs.Blocks.{block_of_le, block_of_lt, block_of_block, width_le, width_le_block}
use Rattle.shape.proofs.Runs.{block_of_run}
use Rattle.shape.proofs.Columns.{triangle_rest}
use Rattle.calls.specs.Triangles.{Triangle, entry, height, load}
use Rattle.calls.specs.Arithmetic.{minus_products, forward, backward}
use Rattle.calls.proofs.Triangles.{entry_load}
use Rattle.calls.proofs.Columns.{products_same}
use Rattle.calls.proofs.Entries.{length_forward, forward_entry_lem, length_backward, backward_entry_lem}
use Rattle.kernels.specs.declared.tiles.Run.{Run}
use Rattle.kernels.specs.Kernels.{Filled, Replaced, RowsBelow, TileIs, tile_at, run_at, lane_at}
use Rattle.kernels.proofs.Parts.{prefix_replaced}
use Rattle.solve.specs.declared.blocked.Blocked.{Blocked}
use Rattle.solve.specs.declared.runs.ColumnRun.{ColumnRun}
use Rattle.solve.specs.Parts.{blocked_entries, blocked_factor, EndsBlock, RunAt, RunIs}
use Rattle.solve.specs.Substitution.{entries_at, TriangleForward, RowsSubtracted, ForwardDone, ProductsSubtracted, BackwardDone}
use Rattle.solve.proofs.Factors.{run_agrees}
use Rattle.solve.proofs.Rows.{replaced_of_filled}
use Rattle.solve.proofs.Substitution.{Agrees, ForwardTo, BackwardTo, lent, returned, forward_lent, backward_lent}

-- ---- a run's columns

module _ (run : ColumnRun) where
  abbrev h : ℕ
  h = run.memory.shape.order

  abbrev b : ℕ
  b = run.memory.shape.block

  pub run_le : (run.w ≤ h) × (run.w ≤ 16)
  run_le =
      (omega (arith, run.columns, width_le h (block_of b 16) 0), omega (arith, run.columns, width_le_block h (block_of b 16) 0, block_of_le b 16))

  -- it is whole where rows are below it
  pub run_full : run.w < h → run.w ≡ block_of b 16
  unfolding width
  run_full under = omega (arith, run.columns)

  run_first : run.w < h → block_of b run.w ≡ run.w
  run_first under = ap (block_of b) (run_full under) ∙ block_of_block b 16 run.memory.block ∙ sym (run_full under)

  pub run_ends : EndsBlock h b run.w
  run_ends =
      elim (dec_lt run.w h) [
        | yes under ↦ inr (run_first under)
        | no last ↦ inl (omega (arith, run_le.0))
      ]

  -- rows below it
  pub run_rows :
      (numbers : Run) (r m : ℕ) → RunIs run numbers → run.w < h → run.w ≤ r → r + m ≤ h →
      RowsBelow numbers.start numbers.order numbers.block numbers.corner numbers.columns r m (length run.memory.matrix.now)
  run_rows numbers r m is under low inside =
      rw (is.start, is.order, is.block, is.corner, is.columns)
      (record {
        order = run.memory.order;
        block = omega (arith, run.low);
        block_high = omega (arith, run.high);
        diagonal = refl;
        some = omega (arith, run_full under, block_of_lt b 16 (omega (arith, run.low)), run.high);
        whole = run_first under;
        above = low;
        inside = inside;
        size = omega (arith, run.memory.values);
      })

-- ---- its triangle

module _ (h b w : ℕ) (part v u : List Float) (le : w ≤ h) (fits : w ≤ length v) where
  abbrev factor : Triangle
  factor = load (blocked_place h b) (height h) h part

  abbrev coefficient : ℕ → ℕ → Float
  coefficient = entries_at (blocked_place h b) part

  same_entry : (i j : ℕ) → j ≤ i → i < w → entry factor i j ≡ coefficient i j
  same_entry i j low inside = entry_load (blocked_place h b) h part i j (record { lower = low; inside = omega arith })

  module _ (size : length u ≡ w) where
    whole : Replaced nan 0 w v u (u ++ drop w v)
    whole = prefix_replaced nan w v u fits size

    own : (r : ℕ) → r < w → get_or (u ++ drop w v) r nan ≡ get_or u r nan
    own r p =
        let none : 0 + r ≡ r = omega arith in
        rw none at (whole.inside r p)

    after : (r : ℕ) → w ≤ r → get_or (u ++ drop w v) r nan ≡ get_or v r nan
    after r p = whole.after r (omega arith)

  pub triangle_forward : u ≡ forward w factor (take w v) → TriangleForward coefficient w v (u ++ drop w v)
  triangle_forward e =
      record {
        size = (whole size).size;
        inside = λ r p.
            own size r p ∙ ap (λ l. get_or l r nan) e ∙ forward_entry_lem w factor (take w v) r p
            ∙ ap₂ (div binary64)
            (products_same (λ k. entry factor r k) (λ k. coefficient r k) (λ k. get_or (forward w factor (take w v)) k nan)
            (λ k. get_or (u ++ drop w v) k nan) r (get_or (take w v) r nan)
            (λ k q. same_entry r k (omega arith) p)
            (λ k q. sym (own size k (omega arith) ∙ ap (λ l. get_or l k nan) e))
            ∙ ap (minus_products (λ k. coefficient r k) (λ k. get_or (u ++ drop w v) k nan) r) (get_or-take w v r nan p))
            (same_entry r r (omega arith) p);
        under = after size;
      }
    where
      size : length u ≡ w
      size = ap length e ∙ length_forward w factor (take w v)

  pub triangle_backward : u ≡ backward w factor (take w v) → BackwardDone coefficient w w v (u ++ drop w v)
  triangle_backward e =
      record {
        size = (whole size).size;
        inside = λ r p.
            own size r p ∙ ap (λ l. get_or l r nan) e ∙ backward_entry_lem w factor (take w v) r p
            ∙ ap₂ (div binary64)
            (products_same (λ k. entry factor (w - 1 - k) r) (λ k. coefficient (w - 1 - k) r)
            (λ k. get_or (backward w factor (take w v)) (w - 1 - k) nan) (λ k. get_or (u ++ drop w v) (w - 1 - k) nan) (w - 1 - r)
            (get_or (take w v) r nan)
            (λ k q. same_entry (w - 1 - k) r (omega arith) (omega arith))
            (λ k q. sym (own size (w - 1 - k) (omega arith) ∙ ap (λ l. get_or l (w - 1 - k) nan) e))
            ∙ ap (minus_products (λ k. coefficient (w - 1 - k) r) (λ k. get_or (u ++ drop w v) (w - 1 - k) nan) (w - 1 - r)) (get_or-take w v r nan p))
            (same_entry r r (omega arith) p);
        under = after size;
      }
    where
      size : length u ≡ w
      size = ap length e ∙ length_backward w factor (take w v)

-- ---- the rows below it

-- m of them as a tile, of which `len` are stored
module _ (run : ColumnRun) (numbers : Run) (is : RunIs run numbers) where
  abbrev part : List Float
  part = run.memory.matrix.now

  run_entry : (i k : ℕ) → run_at part numbers.start numbers.order numbers.block i k ≡ blocked_entries run.memory i k
  run_entry i k =
      ap (λ p. get_or part p nan)
      (rw (is.start, is.order, is.block) (zero-add (blocked_place run.memory.shape.order run.memory.shape.block i k)))

  pub tile_rows :
      (r m len : ℕ) (v : List Float) (tile less : List (List Float)) (v' : List Float) → len ≤ m →
      TileIs m 1 (λ q s. get_or v (r + q * 1 + s) nan) tile →
      TileIs m 1 (λ q s. minus_products (run_at part numbers.start numbers.order numbers.block (r + q)) (lane_at 1 v s) numbers.columns (tile_at tile q s)) less →
      Filled nan r len (λ q. tile_at less q 0) v v' → RowsSubtracted (blocked_entries run.memory) run.w r (r + len) v v'
  tile_rows r m len v tile less v' few loaded reduced stored =
      replaced_of_filled _ (λ i. tile_at less i 0) r len (r + len) v v' (omega arith) stored
      (λ i p.
      let at : r + i * 1 + 0 ≡ r + i = omega arith in
      let row : ℕ → Float = run_at part numbers.start numbers.order numbers.block (r + i) in
      reduced i 0 (omega arith) (omega arith)
      ∙ ap (λ c. minus_products row (lane_at 1 v 0) c (tile_at tile i 0)) is.columns
      ∙ products_same row (λ k. blocked_entries run.memory (r + i) k) (lane_at 1 v 0) (λ k. get_or v k nan) run.w (tile_at tile i 0)
      (λ k q. run_entry (r + i) k)
      (λ k q. let here : 1 * k + 0 ≡ k = omega arith in ap (λ z. get_or v z nan) here)
      ∙ ap (minus_products (λ k. blocked_entries run.memory (r + i) k) (λ k. get_or v k nan) run.w)
      (loaded i 0 (omega arith) (omega arith) ∙ ap (λ q. get_or v q nan) at))

-- their products with the run's columns
pub tile_columns :
    (coefficient : ℕ → ℕ → Float) (h w : ℕ) (v tile less v' : List Float) →
    ((s : ℕ) → s < w → get_or tile s nan ≡ get_or v (0 + s) nan) →
    ((j : ℕ) → j < w →
    get_or less j nan ≡ minus_products (λ k. coefficient (h - 1 - k) j) (λ k. get_or v (h - 1 - k) nan) (h - w) (get_or tile j nan)) →
    Replaced nan 0 w v less v' → ProductsSubtracted coefficient h w v v'
tile_columns coefficient h w v tile less v' loaded reduced stored =
    replaced_of_filled _ (λ i. get_or less i nan) 0 w w v v' (omega arith) stored
    (λ i p.
    let at : 0 + i ≡ i = omega arith in
    reduced i p
    ∙ ap (minus_products (λ k. coefficient (h - 1 - k) i) (λ k. get_or v (h - 1 - k) nan) (h - w)) (loaded i p)
    ∙ ap (λ z. minus_products (λ k. coefficient (h - 1 - k) z) (λ k. get_or v (h - 1 - k) nan) (h - w) (get_or v (0 + i) nan)) (sym at))

-- ---- a run's turn

width_here : (n b c : ℕ) → width n b c ≡ width (n - c) b 0
unfolding width
width_here n b c = omega arith

module _ (f : Blocked) (c : ℕ) (run : ColumnRun) (first : block_of (block_of f.shape.block 16) c ≡ c) (inside : c ≤ f.shape.order) (held : RunAt f c run)
  where
    pub run_wide : run.w ≡ width f.shape.order (block_of f.shape.block 16) c
    run_wide =
        run.columns ∙ ap₂ (λ n b. width n (block_of b 16) 0) held.order held.block
        ∙ sym (width_here f.shape.order (block_of f.shape.block 16) c)

    pub run_fits : c + run.w ≤ f.shape.order
    run_fits = omega (arith, held.order, run_le run)

    pub run_next : c + block_of f.shape.block 16 < f.shape.order → run.w ≡ block_of f.shape.block 16
    unfolding width
    run_next less = omega (arith, run_wide)

    pub run_end : c + run.w ≡ min (c + block_of f.shape.block 16) f.shape.order
    unfolding width
    run_end = omega (arith, run_wide, run_fits)

    agrees : Agrees f.shape.order c run.w (blocked_factor f) (blocked_entries run.memory)
    agrees =
        rw (held.order, held.block, held.part ∙ sym (take_rest f.matrix.now (block_start f.shape.order c)))
        (run_agrees f.shape.order c f.matrix.now f.shape.block (length f.matrix.now - block_start f.shape.order c) run.w f.block
        (block_of_run f.shape.block 16 c f.block first) run_fits (omega (arith, f.values, triangle_rest f.shape.order c inside)))

    module _ (y work v' : List Float) where
      pub run_forward :
          ForwardTo f.shape.order (blocked_factor f) y c work → ForwardDone (blocked_entries run.memory) run.memory.shape.order run.w (lent c work) v' →
          ForwardTo f.shape.order (blocked_factor f) y (c + run.w) (returned c work v')
      run_forward state done =
          forward_lent f.shape.order c run.w (blocked_factor f) y work v' (blocked_entries run.memory) run_fits agrees state
          (subst (λ h. ForwardDone (blocked_entries run.memory) h run.w (lent c work) v') held.order done)

      pub run_backward :
          BackwardTo f.shape.order (blocked_factor f) y (c + run.w) work →
          BackwardDone (blocked_entries run.memory) run.memory.shape.order run.w (lent c work) v' →
          BackwardTo f.shape.order (blocked_factor f) y c (returned c work v')
      run_backward state done =
          backward_lent f.shape.order c run.w (blocked_factor f) y work v' (blocked_entries run.memory) run_fits agrees state
          (subst (λ h. BackwardDone (blocked_entries run.memory) h run.w (lent c work) v') held.order done)

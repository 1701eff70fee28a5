-- From the part of the memory that begins at a block column's start to the whole memory, and from places to entries. Assumes nothing.
use Prim.Native.Nat.{ℕ, ◌+◌, ◌-◌, ◌*◌, ◌≤◌, ◌<◌, min}
use native.Mathlib.Nat.{mul-le-mul_left, mul-le-mul_right}
use native.Mathlib.Omega.{arith}
use native.Mathlib.Decide.{dec_lt}
use mathlib.Core.Path.{◌≡◌, sym, ap, ◌∙◌, subst}
use mathlib.Core.Bool.{true, false}
use mathlib.Core.List.{List}
use lib.Dec.{T}
use lib.ListN.{length, get_or, take, drop}
use lib.Seq.{ext_get_or}
use lib.Ieee.{Float, nan}
use Rattle.shape.specs.Places.{block_of, block_start, width, blocked_place, block_work}
use Rattle.shape.specs.Layouts.{Entry}
use Rattle.shape.proofs.Rows.{place_in_block_row, row_start_under}
use Rattle.shape.proofs.Columns.{triangle_exact}
use Rattle.shape.proofs.Blocks.{block_of_le, block_of_lt, block_of_block, block_of_next, block_before, block_end, width_le, width_le_block, width_full, width_last, blocked_place_at, blocked_place_block}
use Rattle.shape.proofs.Bounds.{block_start_mono}
use Rattle.calls.specs.declared.Judgement.{Judgement}
use Rattle.calls.specs.Triangles.{Triangle, entry}
use Rattle.calls.specs.Arithmetic.{minus_products}
use Rattle.calls.specs.Refusals.{accepted}
use Rattle.calls.proofs.Columns.{products_same}
use Rattle.kernels.specs.Kernels.{Filled, Replaced, row_at}
use Rattle.kernels.proofs.Parts.{get_d_part}
use Rattle.kernels.proofs.Runs.{square_ge}
use Rattle.blocked_factor.specs.BlockColumns.{row_start, SameTo, PanelUpdated}
use Rattle.blocked_factor.specs.BlockStages.{factor_entry, less_products, Stage, all_rows, BlockColumnFactored}
use Rattle.blocked_factor.specs.BlockSteps.{BlockAt, row_of, FactoredTo, BlockFactored, BlockDone}
use Rattle.blocked_factor.proofs.BlockRows.{row_lt}
use Rattle.blocked_factor.proofs.Finishing.{entered_same}
use Rattle.blocked_factor.proofs.EarlierBlocks.{inside_le, block_room, place_before}

-- ---- places

module _ {n b c len : ℕ} (here : BlockAt n b c len) where
  pub place_here : (r s : ℕ) → s < width n b c → blocked_place n b (c + r) (c + s) ≡ block_start n c + row_start (width n b c) r + s
  place_here r s narrow =
      blocked_place_at n b c r s here.first (omega (arith, width_le_block n b c))
      ∙ omega (arith, place_in_block_row (width n b c) r s, place_in_block_row (width n b c) r 0)

  -- entries of later columns stand past the block column
  place_after : (i j : ℕ) → Entry n i j → c + width n b c ≤ j → block_start n c + row_start (width n b c) (n - c) ≤ blocked_place n b i j
  place_after i j e high = go (dec_lt (n - c) b)
    where
      go : Dec (n - c < b) → block_start n c + row_start (width n b c) (n - c) ≤ blocked_place n b i j
      go (yes last) = absurd (omega (arith, width_last n b c (omega arith), e.lower, e.inside, here.inside))
      go (no full) =
          let w : width n b c ≡ b = width_full n b c (omega arith) in
          let k : ℕ = block_of b j in
          let le : k ≤ j = block_of_le b j in
          let up : j < k + b = block_of_lt b j (omega (arith, here.block)) in
          let later : c + b ≤ k = go' (dec_lt k (c + b)) w le up in
          let bound : block_start n (c + b) ≤ block_start n k = block_start_mono n (c + b) k later (omega (arith, e.lower, e.inside)) in
          rw w (omega (arith, bound, blocked_place_block n b i j, block_end n c b (omega (arith, inside_le here))))
        where
          go' : Dec (block_of b j < c + b) → width n b c ≡ b → block_of b j ≤ j → j < block_of b j + b → c + b ≤ block_of b j
          go' (no p) w le up = omega arith
          go' (yes p) w le up =
              let next : block_of b j + b ≤ c + b =
              block_before b (block_of b j) (c + b) (block_of_block b j (omega (arith, here.block))) (block_of_next b c (omega (arith, here.block)) here.first) p
              in
              absurd (omega arith)

-- ---- the block column

module _
    {n b c : ℕ} {saved saved₁ m m₁ m₂ q : List Float} {before answer : Judgement} (here : BlockAt n b c (length m))
    (same : SameTo (row_start (width n b c) (n - c)) saved saved₁)
    (update : PanelUpdated (block_start n c) (width n b c) (n - c) 0 (width n b c) (row_of n b c m) c m m₁)
    (factored : BlockColumnFactored c (width n b c) (n - c) saved₁ before (take (length m₁ - block_start n c) (drop (block_start n c) m₁)) answer q)
    (lent : Replaced nan (block_start n c) (length m₁ - block_start n c) m₁ q m₂) where
  abbrev start : ℕ
  start = block_start n c

  abbrev w : ℕ
  w = width n b c

  abbrev part : List Float
  part = take (length m₁ - start) (drop start m₁)

  inside : (r s : ℕ) → s ≤ r → c + r < n → s < w → row_start w r + s < length m₁ - start
  inside r s lower high narrow = omega (arith, row_lt w r (n - c) s (omega arith) (omega arith), block_room here, update.kept)

  low_kept : (p : ℕ) → p < start → get_or m₂ p nan ≡ get_or m p nan
  low_kept p low = lent.before p low ∙ update.outside p (λ r s e z. omega arith)

  high_kept : (p : ℕ) → start + row_start w (n - c) ≤ p → get_or m₂ p nan ≡ get_or m p nan
  high_kept p high =
      at (dec_lt p (length m₁)) ∙ update.outside p (λ r s e z. omega (arith, row_lt w r (n - c) s e.row (omega (arith, e.lower, e.right))))
    where
      at : Dec (p < length m₁) → get_or m₂ p nan ≡ get_or m₁ p nan
      at (no far) = lent.after p (omega arith)
      at (yes near) =
          let place : start + (p - start) ≡ p = omega arith in
          rw place at
          (lent.inside (p - start) (omega arith)
          ∙ factored.beyond (p - start) (omega arith)
          ∙ get_d_part nan start (length m₁ - start) m₁ (p - start) (omega arith))

  module _ (a : Triangle) (known : FactoredTo n b a c m) where
    entered : (r s : ℕ) → s ≤ r → c + r < n → s < w → get_or part (row_start w r + s) nan ≡ less_products n a c (c + r) (c + s)
    entered r s lower high narrow =
        let assoc : start + (row_start w r + s) ≡ start + row_start w r + s = omega arith in
        get_d_part nan start (length m₁ - start) m₁ (row_start w r + s) (inside r s lower high narrow)
        ∙ ap (λ p. get_or m₁ p nan) assoc
        ∙ update.inside r s (record { lower = lower; row = omega arith; left = omega arith; right = omega arith })
        ∙ products_same (row_of n b c m r) (factor_entry n a (c + r)) (row_of n b c m s) (factor_entry n a (c + s)) c (get_or m (start + row_start w r + s) nan)
        (λ k few. known.finished (c + r) k (record { lower = omega arith; inside = high }) few)
        (λ k few. known.finished (c + s) k (record { lower = omega arith; inside = omega arith }) few)
        ∙ ap (minus_products (factor_entry n a (c + r)) (factor_entry n a (c + s)) c)
        (ap (λ p. get_or m p nan) (sym (place_here here r s narrow))
        ∙ known.entries (c + r) (c + s) (record { lower = omega arith; inside = high }) (omega arith))

    order : c + (n - c) ≡ n
    order = omega (arith, here.inside)

    stage : Stage n a c w 0 0 (all_rows 0) part
    stage =
        record {
          finished = λ r s lower high narrow before. absurd (omega arith);
          started = λ r s lower high narrow low up. absurd (omega arith);
          entered = λ r s lower high narrow low. entered r s lower high narrow;
        }

    new_entry : (r s : ℕ) → s ≤ r → c + r < n → s < w → get_or m₂ (blocked_place n b (c + r) (c + s)) nan ≡ factor_entry n a (c + r) (c + s)
    new_entry r s lower high narrow =
        let assoc : start + row_start w r + s ≡ start + (row_start w r + s) = omega arith in
        ap (λ p. get_or m₂ p nan) (place_here here r s narrow ∙ assoc)
        ∙ lent.inside (row_start w r + s) (inside r s lower high narrow)
        ∙ (factored.stage n a order stage).finished r s lower high narrow narrow

    block_finished : FactoredTo n b a (c + w) m₂
    block_finished =
        record {
          finished = λ i j e high.
              elim (dec_lt j c) [
                | yes p ↦ low_kept (blocked_place n b i j) (place_before here i j e p) ∙ known.finished i j e p
                | no p ↦
                    let row : c + (i - c) ≡ i = omega (arith, e.lower) in
                    let column : c + (j - c) ≡ j = omega arith in
                    rw (row, column) at (new_entry (i - c) (j - c) (omega (arith, e.lower)) (omega (arith, e.inside)) (omega arith))
              ];
          entries = λ i j e high.
              high_kept (blocked_place n b i j) (place_after here i j e high) ∙ known.entries i j e (omega arith);
        }

  pub block_factored : BlockFactored n b c saved before m answer m₂
  block_factored =
      record {
        kept = lent.size ∙ update.kept;
        earlier = low_kept;
        later = high_kept;
        finished = block_finished;
        judged = λ entered a known.
            factored.judgement n a (order a known) (stage a known) (entered_same (width_le n b c) same (entered a known));
      }

-- ---- entry values kept and put back

-- a block column's values are no more than its rows times its columns
values_le : (w h : ℕ) → w ≤ h → row_start w h ≤ h * w
values_le w h full =
    let rest : w + (h - w) ≡ h = omega arith in
    omega (arith, place_in_block_row w h 0, row_start_under w h full, triangle_exact w, square_ge w, ap (λ z. z * w) rest)

module _ {n b c len : ℕ} (here : BlockAt n b c len) where
  values_fit : row_start (width n b c) (n - c) ≤ (n - c) * min n b
  values_fit =
      let narrow : width n b c ≤ min n b = omega (arith, width_le_block n b c, width_le n b c) in
      omega (arith, values_le (width n b c) (n - c) (width_le n b c), mul-le-mul_left (n - c) narrow)

  pub size_le : row_start (width n b c) (n - c) ≤ block_work n b
  unfolding block_work
  size_le =
      let part : n - c ≤ n = omega arith in
      omega (arith, values_fit, mul-le-mul_right (min n b) part)

  -- behind the first block column's there is room for two lanes of a block column
  pub spare_two : 0 < c → row_start (width n b c) (n - c) + 2 * b ≤ block_work n b
  unfolding block_work
  spare_two later =
      let none : block_of b 0 ≡ 0 = omega (arith, block_of_le b 0) in
      let low : 0 + b ≤ c = block_before b 0 c none here.first later in
      let full : min n b ≡ b = omega (arith, here.inside) in
      let two : 2 ≤ c = omega (arith, here.block) in
      let whole : n - c + c ≡ n = omega (arith, here.inside) in
      omega (
        arith,
        values_fit,
        mul-le-mul_right b two,
        ap (λ z. (n - c) * z) full,
        ap (λ z. n * z) full,
        ap (λ z. z * b) whole,
      )

module _
    {n b c : ℕ} {m m₁ work₀ work : List Float} {before answer : Judgement} {start size : ℕ} (here : BlockAt n b c (length m)) (es : start ≡ block_start n c)
    (ez : size ≡ row_start (width n b c) (n - c)) (saved : Filled nan 0 size (row_at m start) work₀ work)
    (factored : BlockFactored n b c work before m answer m₁) where
  -- the entry values go to the work memory
  saved_diagonal : (a : Triangle) → FactoredTo n b a c m → (s : ℕ) → s < width n b c → get_or work (row_start (width n b c) s + s) nan ≡ entry a (c + s) (c + s)
  saved_diagonal a known s narrow =
      let low : c + s < n = omega (arith, width_le n b c, here.inside) in
      let inside : row_start (width n b c) s + s < size = omega (arith, row_lt (width n b c) s (n - c) s (omega arith) (omega arith)) in
      let place : start + (row_start (width n b c) s + s) ≡ blocked_place n b (c + s) (c + s) = omega (arith, place_here here s s narrow) in
      let front : 0 + (row_start (width n b c) s + s) ≡ row_start (width n b c) s + s = omega arith in
      (rw front at (saved.inside (row_start (width n b c) s + s) inside))
      ∙ ap (λ p. get_or m p nan) place
      ∙ known.entries (c + s) (c + s) (record { lower = omega arith; inside = low }) (omega arith)

  pub done_accepted : accepted answer.verdict ≡ true → BlockDone n b c before m answer m₁
  done_accepted passed =
      record {
        kept = factored.kept;
        restored = λ refused. absurd (subst (λ x. T x) (sym passed ∙ refused) tt);
        finished = λ t. factored.finished;
        judged = factored.judged (λ a known. record { diagonal = saved_diagonal a known });
      }

  -- stay there, and come back
  pub done_refused :
      {m₂ work' : List Float} → accepted answer.verdict ≡ false → SameTo (row_start (width n b c) (n - c)) work work' → Filled nan start size (row_at work' 0) m₁ m₂ →
      BlockDone n b c before m answer m₂
  done_refused {m₂} refused same filled =
      record {
        kept = filled.size ∙ factored.kept;
        restored = λ again. ext_get_or nan m₂ m (filled.size ∙ factored.kept) (λ p room. at p (dec_lt p start) (dec_lt p (start + size)));
        finished = λ t. absurd (subst (λ x. T x) (sym t ∙ refused) tt);
        judged = factored.judged (λ a known. record { diagonal = saved_diagonal a known });
      }
    where
      at : (p : ℕ) → Dec (p < start) → Dec (p < start + size) → get_or m₂ p nan ≡ get_or m p nan
      at p (yes low) d = filled.before p low ∙ factored.earlier p (omega arith)
      at p (no low) (no high) = filled.after p (omega arith) ∙ factored.later p (omega arith)
      at p (no low) (yes inside) =
          let place : start + (p - start) ≡ p = omega arith in
          let value : get_or m₂ (start + (p - start)) nan ≡ get_or m (start + (p - start)) nan =
          filled.inside (p - start) (omega arith) ∙ same.at (0 + (p - start)) (omega arith) ∙ saved.inside (p - start) (omega arith)
          in
          rw place at value

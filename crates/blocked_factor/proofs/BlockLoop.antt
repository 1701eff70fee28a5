-- The block columns in rising order, up to the one with the first refused column. Assumes nothing.
use Prim.Native.Nat.{ℕ, ◌+◌, ◌-◌, ◌≤◌, ◌<◌}
use native.Mathlib.Omega.{arith}
use native.Mathlib.Decide.{dec_lt}
use mathlib.Core.Path.{◌≡◌, refl, sym, ap, ◌∙◌, subst}
use mathlib.Core.Bool.{Bool, true, false, cond}
use mathlib.Core.List.{List}
use lib.Dec.{T}
use lib.ListN.{length, get_or}
use lib.Ieee.{Float, nan}
use Rattle.shape.specs.Places.{triangle, block_of, width, blocked_place}
use Rattle.shape.specs.Layouts.{Entry, Bijection}
use Rattle.shape.proofs.Bijections.{blocked_bijection}
use Rattle.shape.proofs.Blocks.{block_of_le, block_of_inside, block_of_next, width_le_block, width_full, width_last}
use Rattle.calls.specs.declared.Judgement.{Judgement}
use Rattle.calls.specs.declared.Layout.TheVariants.{Blocked}
use Rattle.calls.specs.Sequences.{every}
use Rattle.calls.specs.Triangles.{Triangle, height, load, store}
use Rattle.calls.specs.Refusals.{success, accepted, lowest_refusal}
use Rattle.calls.specs.Calls.{judge_column, exact_column, finished, columns_verdict, columns_exact}
use Rattle.calls.proofs.Triangles.{entry_load, memory_ext, length_store, store_same, store_other}
use Rattle.calls.proofs.Columns.{columns, entry_kept, shaped_columns}
use Rattle.calls.proofs.Refusals.{lowest_accepted}
use Rattle.calls.proofs.Judging.{lowest_all, judged_stays}
use Rattle.blocked_factor.specs.BlockStages.{columns_to}
use Rattle.blocked_factor.specs.BlockSteps.{BlockAt, FactoredTo, BlockDone, Sized, BlocksDone, Factored}
use Rattle.blocked_factor.proofs.BlockVerdicts.{judge_success, lowest_place}
use Rattle.blocked_factor.proofs.EarlierBlocks.{inside_le}

pub block_at : {n b len work_length : ℕ} (c len' : ℕ) → Sized n b len work_length → len' ≡ len → c < n → block_of b c ≡ c → BlockAt n b c len'
block_at c len' sized same inside first =
    record {
      order = sized.order;
      block = sized.block;
      block_high = sized.block_high;
      inside = inside;
      first = first;
      size = same ∙ sized.matrix;
    }

-- where the next block column begins
pub next_first : {n b c len : ℕ} → BlockAt n b c len → c + width n b c < n → block_of b (c + width n b c) ≡ c + width n b c
next_first {n} {b} {c} {len} here inside = go (dec_lt (n - c) b)
  where
    go : Dec (n - c < b) → block_of b (c + width n b c) ≡ c + width n b c
    go (yes last) = absurd (omega (arith, width_last n b c (omega arith)))
    go (no full) = rw (width_full n b c (omega arith)) (block_of_next b c (omega (arith, here.block)) here.first)

-- the first c columns are finished and accepted, and judged
pub record Reached (n b : ℕ) (m : List Float) (c : ℕ) (judged : Judgement) (m' : List Float) : Type 0 where
  pub kept : length m' ≡ length m
  reached :
      (a : Triangle) → FactoredTo n b a 0 m → FactoredTo n b a c m' × (lowest_refusal (judge_column n a) c ≡ success) × (judged ≡ columns_to n a c)

pub reached_none : (n b : ℕ) (m : List Float) → Reached n b m 0 (record { verdict = success; exact = true }) m
unfolding lowest_refusal every
reached_none n b m = record { kept = refl; reached = λ a known. (known, refl, refl) }

module _
    {n b c : ℕ} {m m₁ m₂ : List Float} {judged answer : Judgement} (here : BlockAt n b c (length m₁)) (before : Reached n b m c judged m₁)
    (done : BlockDone n b c judged m₁ answer m₂) where
  found : (a : Triangle) → FactoredTo n b a 0 m → answer ≡ columns_to n a (c + width n b c)
  found a known = let now = before.reached a known in done.judged a now.0 now.1 now.2

  pub reached_next : accepted answer.verdict ≡ true → Reached n b m (c + width n b c) answer m₂
  reached_next passed =
      record {
        kept = done.kept ∙ before.kept;
        reached = λ a known. (
          done.finished passed a (before.reached a known).0,
          lowest_all (judge_column n a) (judge_success n a) (c + width n b c)
              (subst (λ (r : Judgement). T (accepted r.verdict)) (found a known) (rw passed tt)),
          found a known,
        );
      }

  pub blocks_refused : accepted answer.verdict ≡ false → BlocksDone n b m answer m₂
  blocks_refused refused =
      record {
        kept = done.kept ∙ before.kept;
        judgement = λ a known.
            found a known
            ∙ judged_stays (judge_column n a) (exact_column n a) (c + width n b c) n (omega (arith, inside_le here))
            (ap (λ (r : Judgement). accepted r.verdict) (sym (found a known)) ∙ refused);
        columns = λ a known.
            rw (refused, place a known) (subst (λ l. FactoredTo n b a c l) (sym (done.restored refused)) (before.reached a known).0);
      }
    where
      place : (a : Triangle) → FactoredTo n b a 0 m → block_of b answer.verdict.place ≡ c
      place a known =
          let at : ℕ = answer.verdict.place in
          let lowest : (at < c + width n b c) × (accepted (judge_column n a at) ≡ false) =
          lowest_place n a (c + width n b c) answer.verdict (ap (λ (r : Judgement). r.verdict) (found a known)) refused
          in
          let low : c ≤ at = at_least a known at lowest.1 (dec_lt at c) in
          let back : at ≡ c + (at - c) = omega arith in
          ap (block_of b) back
          ∙ block_of_inside b c (at - c) here.first (omega (arith, lowest.0, width_le_block n b c))
        where
          at_least : (a : Triangle) → FactoredTo n b a 0 m → (j : ℕ) → accepted (judge_column n a j) ≡ false → Dec (j < c) → c ≤ j
          at_least a known j fails (no p) = omega arith
          at_least a known j fails (yes p) =
              absurd
              (subst (λ x. T x) fails
              (lowest_accepted (judge_column n a) c (subst (λ r. T (accepted r)) (sym (before.reached a known).1) tt) j p))

pub blocks_all : {n b : ℕ} {m m₁ : List Float} {judged : Judgement} → Reached n b m n judged m₁ → accepted judged.verdict ≡ true → BlocksDone n b m judged m₁
blocks_all all passed =
    record {
      kept = all.kept;
      judgement = λ a known. (all.reached a known).2;
      columns = λ a known. rw passed (all.reached a known).0;
    }

-- ---- the whole call

module _
    (n b : ℕ) (m m' : List Float) (answer : Judgement) (block : 0 < b) (size : length m ≡ triangle n) (done : BlocksDone n b m answer m') where
  abbrev a : Triangle
  a = load (blocked_place n b) (height n) n m

  abbrev k : ℕ
  k = finished Blocked n b answer.verdict

  start : FactoredTo n b a 0 m
  start =
      record {
        finished = λ i j e h. absurd (omega arith);
        entries = λ i j e h. sym (entry_load (blocked_place n b) n m i j e);
      }

  bij : Bijection (blocked_place n b) n
  bij = blocked_bijection n b block

  -- no more columns are finished than there are
  finished_le : k ≤ n
  finished_le = go (accepted answer.verdict) refl
    where
      go : (t : Bool) → accepted answer.verdict ≡ t → cond t n (block_of b answer.verdict.place) ≤ n
      go true e = omega arith
      go false e =
          omega (arith, block_of_le b answer.verdict.place, lowest_place n a n answer.verdict (ap (λ (r : Judgement). r.verdict) (done.judgement a start)) e)

  entry_done :
      (i j : ℕ) → Entry n i j → Dec (j < k) →
      get_or m' (blocked_place n b i j) nan ≡ get_or (store (blocked_place n b) (columns n a k) m) (blocked_place n b i j) nan
  entry_done i j e (yes p) =
      (done.columns a start).finished i j e p
      ∙ entry_kept n a n k i j (omega (arith, e.lower, e.inside)) p
      ∙ sym (store_same (blocked_place n b) n bij (columns n a k) k (shaped_columns n a k finished_le) m (omega arith) i j nan e p)
  entry_done i j e (no p) =
      (done.columns a start).entries i j e (omega arith)
      ∙ sym (start.entries i j e (omega arith))
      ∙ sym (store_other (blocked_place n b) n bij (columns n a k) k (shaped_columns n a k finished_le) m (omega arith) i j nan e (omega arith))

  pub blocks_factored : Factored n b m answer m'
  unfolding columns_verdict columns_exact
  blocks_factored =
      record {
        result = done.judgement a start;
        matrix =
            memory_ext (blocked_place n b) n bij m' (store (blocked_place n b) (columns n a k) m) (done.kept ∙ size)
            (length_store (blocked_place n b) n bij (columns n a k) m ∙ size) (λ i j e. entry_done i j e (dec_lt j k));
      }

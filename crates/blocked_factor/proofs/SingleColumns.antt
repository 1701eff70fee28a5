-- With block length 1 the columns of the blocked factor are those of the plain one: blocked order is packed order, the needed work is the same, and so is the
-- memory after a refusal. Assumes nothing.
use Prim.Native.Nat.{ℕ, zero, suc, ◌≤◌, ◌<◌, min}
use native.Mathlib.Nat.{mul-one}
use native.Mathlib.Omega.{arith}
use native.Mathlib.Decide.{dec_lt}
use mathlib.Core.Path.{◌≡◌, refl, sym, ap, ◌∙◌}
use mathlib.Core.Bool.{Bool, true, false, cond}
use mathlib.Core.List.{List}
use lib.ListN.{length, get_or}
use lib.Ieee.{Float, nan}
use Rattle.shape.specs.Places.{triangle, packed_place, blocked_place, block_work}
use Rattle.shape.specs.Layouts.{Entry}
use Rattle.shape.proofs.Blocks.{block_of_one, blocked_place_one}
use Rattle.shape.proofs.Bijections.{packed_bijection, blocked_bijection}
use Rattle.calls.specs.declared.Judgement.{Judgement}
use Rattle.calls.specs.declared.Verdict.{Verdict}
use Rattle.calls.specs.declared.Layout.TheVariants.{Packed, Blocked}
use Rattle.calls.specs.Triangles.{Triangle, height, load, store}
use Rattle.calls.specs.Arithmetic.{cholesky}
use Rattle.calls.specs.Refusals.{accepted}
use Rattle.calls.specs.Calls.{finished, columns_verdict}
use Rattle.plain_factor.specs.Steps as Plain
use Rattle.blocked_factor.specs.BlockSteps.{Factored}
use Rattle.calls.proofs.Columns.{shaped_columns}
use Rattle.blocked_factor.proofs.BlockVerdicts.{lowest_place}
use Rattle.calls.proofs.Triangles.{Shaped, load_one, length_store, store_same, store_other, memory_ext}

-- the needed work
pub work_one : (n : ℕ) → block_work n 1 ≡ n
unfolding block_work
work_one zero = refl
work_one (suc n) =
    let one : min (suc n) 1 ≡ 1 = omega arith in
    rw one (mul-one (suc n))

-- what is stored
store_one : (n k : ℕ) (t : Triangle) (m : List Float) → Shaped n k t → length m ≡ triangle n → store (blocked_place n 1) t m ≡ store (packed_place n) t m
store_one n k t m shaped size =
    memory_ext (packed_place n) n (packed_bijection n) (store (blocked_place n 1) t m) (store (packed_place n) t m)
    (length_store (blocked_place n 1) n (blocked_bijection n 1 (omega arith)) t m ∙ size)
    (length_store (packed_place n) n (packed_bijection n) t m ∙ size) (λ i j e. at i j e (dec_lt j k))
  where
    at :
        (i j : ℕ) → Entry n i j → Dec (j < k) →
        get_or (store (blocked_place n 1) t m) (packed_place n i j) nan ≡ get_or (store (packed_place n) t m) (packed_place n i j) nan
    at i j e (yes p) =
        ap (λ q. get_or (store (blocked_place n 1) t m) q nan) (sym (blocked_place_one n i j e))
        ∙ store_same (blocked_place n 1) n (blocked_bijection n 1 (omega arith)) t k shaped m (omega arith) i j nan e p
        ∙ sym (store_same (packed_place n) n (packed_bijection n) t k shaped m (omega arith) i j nan e p)
    at i j e (no p) =
        ap (λ q. get_or (store (blocked_place n 1) t m) q nan) (sym (blocked_place_one n i j e))
        ∙ store_other (blocked_place n 1) n (blocked_bijection n 1 (omega arith)) t k shaped m (omega arith) i j nan e (omega arith)
        ∙ ap (λ q. get_or m q nan) (blocked_place_one n i j e)
        ∙ sym (store_other (packed_place n) n (packed_bijection n) t k shaped m (omega arith) i j nan e (omega arith))

-- what is finished
finished_one : (n : ℕ) (v : Verdict) → finished Blocked n 1 v ≡ finished Packed n 1 v
finished_one n v = ap (λ q. cond (accepted v) n q) (block_of_one v.place)

module _ (n : ℕ) (m : List Float) (size : length m ≡ triangle n) where
  abbrev a : Triangle
  a = load (packed_place n) (height n) n m

  finished_le : finished Packed n 1 (columns_verdict n a) ≤ n
  unfolding columns_verdict
  finished_le = go (accepted (columns_verdict n a)) refl
    where
      go : (t : Bool) → accepted (columns_verdict n a) ≡ t → cond t n (columns_verdict n a).place ≤ n
      go true e = omega arith
      go false e = omega (arith, lowest_place n a n (columns_verdict n a) refl e)

  pub factored_one : (r : Judgement) (m' : List Float) → Plain.Factored n m r m' → Factored n 1 m r m'
  factored_one r m' f =
      let k : ℕ = finished Packed n 1 (columns_verdict n a) in
      record {
        result = rw (load_one n m) f.result;
        matrix =
            f.matrix
            ∙ rw (
              load_one n m,
              finished_one n r.verdict,
              f.result,
              store_one n k (cholesky (height n) a k) m (shaped_columns n a k finished_le) size,
            );
      }

-- The memory that rule 7 of a variance call judges, specs/Variances.antt's `columns_from`: what stands at each place, and when all of it is finite. Assumes nothing.
use Prim.Native.Nat.{ℕ, ◌-◌, ◌≤◌, ◌<◌}
use native.Mathlib.Omega.{arith}
use native.Mathlib.Decide.{dec_lt}
use mathlib.Core.Path.{◌≡◌, sym, ap, ◌∙◌, subst}
use mathlib.Core.List.{List, []}
use lib.Dec.{T}
use lib.ListN.{length, get_or, replicate, length-replicate, get_or-replicate}
use lib.Ieee.{Float, nan}
use Rattle.binary64.specs.Kinds.{kind, finite, zero64}
use Rattle.shape.specs.Places.{triangle}
use Rattle.shape.specs.Layouts.{Entry, Bijection}
use Rattle.calls.specs.Sequences.{all, tabulate}
use Rattle.calls.specs.Triangles.{Triangle, entry, height}
use Rattle.calls.specs.Variances.{columns_from}
use Rattle.calls.proofs.Sequences.{length_tabulate, get_d_tabulate, all_at, all_of}
use Rattle.calls.proofs.Triangles.{Shaped, length_store, store_same, store_other, memory_ext}

pub zero_finite : T (finite zero64)
unfolding finite kind
zero_finite = tt

-- k columns of +0
abbrev zeros : ℕ → ℕ → Triangle
zeros n k = tabulate k (λ j. replicate (height n j) zero64)

zero_column : (n k j : ℕ) → j < k → get_or (zeros n k) j [] ≡ replicate (n - j) zero64
unfolding height
zero_column n k j h = get_d_tabulate (λ c. replicate (n - c) zero64) k j [] h

shaped_zeros : (n k : ℕ) → Shaped n k (zeros n k)
unfolding height
shaped_zeros n k =
    record {
      count = length_tabulate (λ c. replicate (n - c) zero64) k;
      heights = λ j h. ap length (zero_column n k j h) ∙ length-replicate (n - j) zero64;
    }

zero_entry : (n k i j : ℕ) → Entry n i j → j < k → entry (zeros n k) i j ≡ zero64
unfolding entry
zero_entry n k i j e h =
    ap (λ c. get_or c (i - j) nan) (zero_column n k j h) ∙ get_or-replicate (n - j) (i - j) zero64 nan (omega (arith, e.lower, e.inside))

module _ (place : ℕ → ℕ → ℕ) (n k : ℕ) (bij : Bijection place n) (matrix : List Float) (whole : length matrix ≡ triangle n) where
  pub length_columns : length (columns_from k place n matrix) ≡ triangle n
  unfolding columns_from
  length_columns = length_store place n bij (zeros n k) matrix ∙ whole

  -- before k
  pub columns_before : (i j : ℕ) → Entry n i j → j < k → get_or (columns_from k place n matrix) (place i j) nan ≡ zero64
  unfolding columns_from
  columns_before i j e h = store_same place n bij (zeros n k) k (shaped_zeros n k) matrix (omega arith) i j nan e h ∙ zero_entry n k i j e h

  -- from k on
  pub columns_after : (i j : ℕ) → Entry n i j → k ≤ j → get_or (columns_from k place n matrix) (place i j) nan ≡ get_or matrix (place i j) nan
  unfolding columns_from
  columns_after i j e h = store_other place n bij (zeros n k) k (shaped_zeros n k) matrix (omega arith) i j nan e h

  pub from_finite : ((i j : ℕ) → Entry n i j → k ≤ j → T (finite (get_or matrix (place i j) nan))) → T (all finite (columns_from k place n matrix))
  from_finite fs =
      all_of finite (columns_from k place n matrix) nan
      (λ p q.
      let from : (i : ℕ) × (j : ℕ) × Entry n i j × (place i j ≡ p) = bij.onto p (omega (arith, length_columns)) in
      subst (λ x. T (finite (get_or (columns_from k place n matrix) x nan))) from.3 (one from.0 from.1 from.2))
    where
      one : (i j : ℕ) → Entry n i j → T (finite (get_or (columns_from k place n matrix) (place i j) nan))
      one i j e =
          elim (dec_lt j k) [
            | yes p ↦ subst (λ x. T (finite x)) (sym (columns_before i j e p)) zero_finite
            | no p ↦ subst (λ x. T (finite x)) (sym (columns_after i j e (omega arith))) (fs i j e (omega arith))
          ]

  pub finite_from : T (all finite (columns_from k place n matrix)) → (i j : ℕ) → Entry n i j → k ≤ j → T (finite (get_or matrix (place i j) nan))
  finite_from f i j e h =
      subst (λ x. T (finite x)) (columns_after i j e h)
      (all_at finite (columns_from k place n matrix) f (place i j) nan (omega (arith, length_columns, bij.below i j e)))

-- memories that agree on the columns from k on
pub columns_same :
    (place : ℕ → ℕ → ℕ) (n k : ℕ) → Bijection place n → (matrix matrix' : List Float) → length matrix ≡ triangle n → length matrix' ≡ triangle n →
    ((i j : ℕ) → k ≤ j → Entry n i j → get_or matrix (place i j) nan ≡ get_or matrix' (place i j) nan) →
    columns_from k place n matrix ≡ columns_from k place n matrix'
columns_same place n k bij matrix matrix' whole whole' same =
    memory_ext place n bij (columns_from k place n matrix) (columns_from k place n matrix') (length_columns place n k bij matrix whole)
    (length_columns place n k bij matrix' whole')
    (λ i j e.
    elim (dec_lt j k) [
      | yes p ↦ columns_before place n k bij matrix whole i j e p ∙ sym (columns_before place n k bij matrix' whole' i j e p)
      | no p ↦
          columns_after place n k bij matrix whole i j e (omega arith) ∙ same i j (omega arith) e
          ∙ sym (columns_after place n k bij matrix' whole' i j e (omega arith))
    ])

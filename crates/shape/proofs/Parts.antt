-- Parts laid end to end: part k has `len k` places and starts where the parts before it end. Every place below the end of the last
-- part is one place of one part. The columns of the packed layout, the rows of a block column and the block columns are such parts.
-- Assumes nothing.
use mathlib.Core.Path.{◌≡◌, refl, ap}
use Prim.Native.Nat.{ℕ, zero, suc, ◌+◌, ◌-◌, ◌≤◌, ◌<◌}
use native.Mathlib.Nat.{le_refl}
use native.Mathlib.Decide.{dec_lt, le_ind}
use native.Mathlib.Numerals.{add-one}
use native.Mathlib.Omega.{arith}

unfoldable pub starts : (ℕ → ℕ) → ℕ → ℕ
starts len zero = 0
starts len (suc k) = starts len k + len k

-- p is place s of part k, one of the first e parts
pub record InPart (len : ℕ → ℕ) (e p : ℕ) : Type 0 where
  pub k : ℕ
  pub s : ℕ
  pub part : k < e
  pub inside : s < len k
  pub place : starts len k + s ≡ p

module _ (len : ℕ → ℕ) where
  pub starts_zero : starts len 0 ≡ 0
  unfolding starts
  starts_zero = refl

  pub starts_next : (k : ℕ) → starts len (k + 1) ≡ starts len k + len k
  unfolding starts
  starts_next k = rw add-one

  pub starts_mono : (k e : ℕ) → k ≤ e → starts len k ≤ starts len e
  unfolding starts
  starts_mono k e h =
      le_ind {n = k} (λ (m : ℕ). starts len k ≤ starts len m) (le_refl (starts len k)) (λ m above ih. omega arith) e h

  pub starts_lt : (k e s : ℕ) → k < e → s < len k → starts len k + s < starts len e
  unfolding starts
  starts_lt k e s h inside = omega (arith, starts_mono (suc k) e h)

  pub starts_apart : (k k' s s' : ℕ)
      → s < len k
      → s' < len k'
      → starts len k + s ≡ starts len k' + s'
      → (k ≡ k') × (s ≡ s')
  starts_apart k k' s s' h h' p = go (dec_lt k k') (dec_lt k' k)
    where
      go : Dec (k < k') → Dec (k' < k) → (k ≡ k') × (s ≡ s')
      go (yes before) d = absurd (omega (arith, starts_lt k k' s before h))
      go (no a) (yes after) = absurd (omega (arith, starts_lt k' k s' after h'))
      go (no a) (no b) =
          let same : k ≡ k' = omega arith in
          (same, omega (arith, ap (starts len) same))

  pub starts_onto : (e p : ℕ) → p < starts len e → InPart len e p
  unfolding starts
  starts_onto zero p h = absurd (omega arith)
  starts_onto (suc e) p h = go (starts_onto e p) (dec_lt p (starts len e))
    where
      go : (p < starts len e → InPart len e p) → Dec (p < starts len e) → InPart len (suc e) p
      go earlier (yes below) =
          let at : InPart len e p = earlier below in
          record { k = at.k; s = at.s; part = omega arith; inside = at.inside; place = at.place }
      go earlier (no above) =
          record { k = e; s = p - starts len e; part = omega arith; inside = omega arith; place = omega arith }

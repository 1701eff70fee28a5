-- Laws of specs/Transfers.antt: joining what was moved, moving one entry, and moving entries whose places in the target follow one another. A move writes
-- an entry's value at the entry's own place, so none that was moved before is lost. Assumes nothing.
use Prim.Native.Nat.{ℕ, ◌+◌, ◌-◌, ◌<◌}
use native.Mathlib.Omega.{arith}
use native.Mathlib.Decide.{dec_lt, ℕ_discrete}
use mathlib.Core.Path.{◌≡◌, ap, ◌∙◌}
use mathlib.Core.List.{List}
use lib.ListN.{length, get_or, set}
use lib.Seq.{get_or-set_same, get_or-set_other}
use lib.Ieee.{Float, nan}
use Rattle.kernels.specs.Kernels.{Filled}
use Rattle.kernels.specs.Transfers.{Same, Transferred}

module _ {from to : ℕ → ℕ → ℕ} {Held : ℕ → ℕ → Type 0} {source : List Float} where
  -- no rows, and no columns
  pub moved_no_rows : {first left right : ℕ} {t : List Float} → Transferred from to Held first first left right source t t
  moved_no_rows = record { moved = λ i j e a b c d. absurd (omega arith); kept = λ i j e same. same }

  pub moved_no_columns : {first end left : ℕ} {t : List Float} → Transferred from to Held first end left left source t t
  moved_no_columns = record { moved = λ i j e a b c d. absurd (omega arith); kept = λ i j e same. same }

  pub join_rows : {first mid end left right : ℕ} {t t' t'' : List Float}
      → Transferred from to Held first mid left right source t t'
      → Transferred from to Held mid end left right source t' t''
      → Transferred from to Held first end left right source t t''
  join_rows {mid = mid} m m' =
      record {
        moved = λ i j e a b c d.
            elim (dec_lt i mid) [
              | yes p ↦ m'.kept i j e (m.moved i j e a p c d)
              | no p ↦ m'.moved i j e (omega arith) b c d
            ];
        kept = λ i j e same. m'.kept i j e (m.kept i j e same);
      }

  pub join_columns : {first end left mid right : ℕ} {t t' t'' : List Float}
      → Transferred from to Held first end left mid source t t'
      → Transferred from to Held first end mid right source t' t''
      → Transferred from to Held first end left right source t t''
  join_columns {mid = mid} m m' =
      record {
        moved = λ i j e a b c d.
            elim (dec_lt j mid) [
              | yes p ↦ m'.kept i j e (m.moved i j e a b c p)
              | no p ↦ m'.moved i j e a b (omega arith) d
            ];
        kept = λ i j e same. m'.kept i j e (m.kept i j e same);
      }

module _ (from to : ℕ → ℕ → ℕ) (Held : ℕ → ℕ → Type 0)
    (apart : (i j i' j' : ℕ) → Held i j → Held i' j' → to i j ≡ to i' j' → (i ≡ i') × (j ≡ j'))
    (source t : List Float)
  where
    -- ---- one entry

    module _ (i j : ℕ) (held : Held i j) (room : to i j < length t) where
      abbrev with_entry : List Float
      with_entry = set t (to i j) (get_or source (from i j) nan)

      same_entry : Same from to source with_entry i j
      same_entry = get_or-set_same t (to i j) (get_or source (from i j) nan) nan room

      pub moved_entry : Transferred from to Held i (i + 1) j (j + 1) source t with_entry
      moved_entry =
          record {
            moved = λ i' j' e a b c d.
                let row : i' ≡ i = omega arith in
                let column : j' ≡ j = omega arith in
                rw (row, column) same_entry;
            kept = λ i' j' e same.
                elim (ℕ_discrete (to i' j') (to i j)) [
                  | yes p ↦
                      let entry : (i' ≡ i) × (j' ≡ j) = apart i' j' i j e held p in
                      rw (entry.0, entry.1) same_entry
                  | no p ↦ get_or-set_other t (to i j) (to i' j') (get_or source (from i j) nan) nan p ∙ same
                ];
          }

    -- ---- `count` entries at places q, q + 1, ..

    module _ (q count : ℕ) (f : ℕ → Float) (t' : List Float) (stored : Filled nan q count f t t') where
      module _ (row column : ℕ → ℕ)
          (held : (k : ℕ) → k < count → Held (row k) (column k))
          (at : (k : ℕ) → k < count → to (row k) (column k) ≡ q + k)
          (read : (k : ℕ) → k < count → f k ≡ get_or source (from (row k) (column k)) nan)
        where
          same_run : (k : ℕ) → k < count → Same from to source t' (row k) (column k)
          same_run k h = ap (λ p. get_or t' p nan) (at k h) ∙ stored.inside k h ∙ read k h

          same_at : (i j k : ℕ) → k < count → i ≡ row k → j ≡ column k → Same from to source t' i j
          same_at i j k h at_row at_column = rw (at_row, at_column) (same_run k h)

          kept_run : (i j : ℕ) → Held i j → Same from to source t i j → Same from to source t' i j
          kept_run i j e same =
              let p : ℕ = to i j in
              elim (dec_lt p q) [
                | yes before ↦ stored.before p before ∙ same
                | no low ↦
                    elim (dec_lt p (q + count)) [
                      | yes high ↦
                          let k : ℕ = p - q in
                          let entry : (i ≡ row k) × (j ≡ column k) =
                          apart i j (row k) (column k) e (held k (omega arith)) (omega (arith, at k (omega arith))) in
                          same_at i j k (omega arith) entry.0 entry.1
                      | no after ↦ stored.after p (omega arith) ∙ same
                    ]
              ]

      -- in a row
      pub moved_columns : (i j : ℕ)
          → ((k : ℕ) → k < count → Held i (j + k))
          → ((k : ℕ) → k < count → to i (j + k) ≡ q + k)
          → ((k : ℕ) → k < count → f k ≡ get_or source (from i (j + k)) nan)
          → Transferred from to Held i (i + 1) j (j + count) source t t'
      moved_columns i j held at read =
          record {
            moved = λ i' j' e a b c d.
                let row : i' ≡ i = omega arith in
                let column : j + (j' - j) ≡ j' = omega arith in
                rw row (rw column at (same_run (λ k. i) (λ k. j + k) held at read (j' - j) (omega arith)));
            kept = kept_run (λ k. i) (λ k. j + k) held at read;
          }

      -- in a column
      pub moved_rows : (i j : ℕ)
          → ((k : ℕ) → k < count → Held (i + k) j)
          → ((k : ℕ) → k < count → to (i + k) j ≡ q + k)
          → ((k : ℕ) → k < count → f k ≡ get_or source (from (i + k) j) nan)
          → Transferred from to Held i (i + count) j (j + 1) source t t'
      moved_rows i j held at read =
          record {
            moved = λ i' j' e a b c d.
                let row : i + (i' - i) ≡ i' = omega arith in
                let column : j' ≡ j = omega arith in
                rw column (rw row at (same_run (λ k. i + k) (λ k. j) held at read (i' - i) (omega arith)));
            kept = kept_run (λ k. i + k) (λ k. j) held at read;
          }

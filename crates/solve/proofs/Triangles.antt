-- The rows of a triangle finished one by one, in either order: what holds between two rows. Assumes nothing.
use Prim.Native.Nat.{ℕ, ◌+◌, ◌-◌, ◌≤◌, ◌<◌}
use native.Mathlib.Omega.{arith}
use native.Mathlib.Decide.{dec_lt}
use mathlib.Core.Path.{◌≡◌, refl, sym, ap, ap₂, ◌∙◌}
use mathlib.Core.List.{List}
use lib.ListN.{length, get_or, set, length-set}
use lib.Seq.{get_or-set_same, get_or-set_other}
use lib.Ieee.{Float, nan, binary64, sub, mul, div}
use Rattle.calls.specs.Arithmetic.{minus_products}
use Rattle.calls.proofs.Columns.{products_same}
use Rattle.kernels.proofs.Products.{minus_none, minus_next}
use Rattle.solve.specs.Substitution.{TriangleForward, RowTaken, BackwardDone}

module _ (coefficient : ℕ → ℕ → Float) where
  -- ---- forward

  pub forward_none : (v : List Float) → TriangleForward coefficient 0 v v
  forward_none v = record { size = refl; inside = λ q h. absurd (omega arith); under = λ q h. refl }

  pub forward_next :
      (r : ℕ) (v₀ v : List Float) (value : Float) → r < length v₀ → TriangleForward coefficient r v₀ v →
      value ≡ minus_products (λ k. coefficient r k) (λ k. get_or v k nan) r (get_or v r nan) →
      TriangleForward coefficient (r + 1) v₀ (set v r (div binary64 value (coefficient r r)))
  forward_next r v₀ v value h s e =
      record {
        size = length-set v r new ∙ s.size;
        inside = λ q p.
            elim (dec_lt q r) [
              | yes before ↦
                  get_or-set_other v r q new nan (λ g. omega arith) ∙ s.inside q before
                  ∙ ap (λ t. div binary64 t (coefficient q q)) (kept q (get_or v₀ q nan) (omega arith))
              | no after ↦
                  let here : q ≡ r = omega arith in
                  rw here
                  (get_or-set_same v r new nan (omega (arith, s.size))
                  ∙ ap (λ t. div binary64 t (coefficient r r))
                  (e ∙ ap (minus_products (λ k. coefficient r k) (λ k. get_or v k nan) r) (s.under r (omega arith))
                  ∙ kept r (get_or v₀ r nan) (omega arith)))
            ];
        under = λ q p. get_or-set_other v r q new nan (λ g. omega arith) ∙ s.under q (omega arith);
      }
    where
      new : Float
      new = div binary64 value (coefficient r r)

      kept :
          (q : ℕ) (t : Float) → q ≤ r →
          minus_products (λ k. coefficient q k) (λ k. get_or v k nan) q t ≡ minus_products (λ k. coefficient q k) (λ k. get_or (set v r new) k nan) q t
      kept q t le =
          products_same (λ k. coefficient q k) (λ k. coefficient q k) (λ k. get_or v k nan) (λ k. get_or (set v r new) k nan) q t (λ k p. refl)
          (λ k p. sym (get_or-set_other v r k new nan (λ g. omega arith)))

  -- ---- backward

  -- t less the first m products of column r, from row w − 1 up
  abbrev less_rows : ℕ → ℕ → ℕ → Float → List Float → Float
  less_rows w m r t v = minus_products (λ k. coefficient (w - 1 - k) r) (λ k. get_or v (w - 1 - k) nan) m t

  -- the rows from r on are finished
  abbrev pub Finished : ℕ → ℕ → List Float → List Float → Type 0
  Finished w r v₀ v =
      (q : ℕ) → r ≤ q → q < w → get_or v q nan ≡ div binary64 (less_rows w (w - 1 - q) q (get_or v₀ q nan) v) (coefficient q q)

  row_after : (w m r k : ℕ) → m ≤ w - 1 - r → k < m → r < w - 1 - k
  row_after w m r k le h = omega arith

  less_kept :
      (w m r q : ℕ) (t : Float) (v v' : List Float) → m ≤ w - 1 - r → ((i : ℕ) → r < i → get_or v' i nan ≡ get_or v i nan) →
      less_rows w m q t v ≡ less_rows w m q t v'
  less_kept w m r q t v v' le same =
      products_same (λ k. coefficient (w - 1 - k) q) (λ k. coefficient (w - 1 - k) q) (λ k. get_or v (w - 1 - k) nan) (λ k. get_or v' (w - 1 - k) nan)
      m t (λ k h. refl) (λ k h. sym (same (w - 1 - k) (row_after w m r k le h)))

  finished_next :
      (w r : ℕ) (v₀ v v' : List Float) → ((i : ℕ) → r < i → get_or v' i nan ≡ get_or v i nan) → Finished w (r + 1) v₀ v →
      get_or v' r nan ≡ div binary64 (less_rows w (w - 1 - r) r (get_or v₀ r nan) v) (coefficient r r) → Finished w r v₀ v'
  finished_next w r v₀ v v' same done own q p h =
      elim (dec_lt r q) [
        | yes after ↦
            same q after ∙ done q (omega arith) h
            ∙ ap (λ t. div binary64 t (coefficient q q)) (less_kept w (w - 1 - q) r q (get_or v₀ q nan) v v' (omega arith) same)
        | no at ↦
            let here : q ≡ r = omega arith in
            rw here
            (own ∙ ap (λ t. div binary64 t (coefficient r r)) (less_kept w (w - 1 - r) r r (get_or v₀ r nan) v v' (omega arith) same))
      ]

  -- ---- backward, a row taking the products of all rows after it

  pub record BackwardRows (w r : ℕ) (v₀ v : List Float) : Type 0 where
    pub size : length v ≡ length v₀
    pub done : Finished w r v₀ v
    pub rest : (q : ℕ) → q < r → get_or v q nan ≡ get_or v₀ q nan
    pub under : (q : ℕ) → w ≤ q → get_or v q nan ≡ get_or v₀ q nan

  pub backward_none : (w : ℕ) (v : List Float) → BackwardRows w w v v
  backward_none w v = record { size = refl; done = λ q p h. absurd (omega arith); rest = λ q h. refl; under = λ q h. refl }

  pub backward_all : (w : ℕ) (v₀ v : List Float) → BackwardRows w 0 v₀ v → BackwardDone coefficient w w v₀ v
  backward_all w v₀ v s = record { size = s.size; inside = λ q h. s.done q (omega arith) h; under = s.under }

  pub backward_next :
      (w r : ℕ) (v₀ v : List Float) (value : Float) → r < w → w ≤ length v₀ → BackwardRows w (r + 1) v₀ v →
      value ≡ less_rows w (w - 1 - r) r (get_or v r nan) v → BackwardRows w r v₀ (set v r (div binary64 value (coefficient r r)))
  backward_next w r v₀ v value h fits s e =
      record {
        size = length-set v r new ∙ s.size;
        done =
            finished_next w r v₀ v (set v r new) (λ i p. other i (λ g. omega arith)) s.done
            (get_or-set_same v r new nan (omega (arith, s.size))
            ∙ ap (λ t. div binary64 t (coefficient r r)) (e ∙ ap (λ t. less_rows w (w - 1 - r) r t v) (s.rest r (omega arith))));
        rest = λ q p. other q (λ g. omega arith) ∙ s.rest q (omega arith);
        under = λ q p. other q (λ g. omega arith) ∙ s.under q p;
      }
    where
      new : Float
      new = div binary64 value (coefficient r r)

      other : (q : ℕ) → (q ≡ r → ⊥) → get_or (set v r new) q nan ≡ get_or v q nan
      other q ne = get_or-set_other v r q new nan ne

  -- ---- backward, a finished row's products being taken from all rows before it

  pub record TakenFrom (w r : ℕ) (v₀ v : List Float) : Type 0 where
    pub size : length v ≡ length v₀
    pub done : Finished w r v₀ v
    pub rest : (q : ℕ) → q < r → get_or v q nan ≡ less_rows w (w - r) q (get_or v₀ q nan) v
    pub under : (q : ℕ) → w ≤ q → get_or v q nan ≡ get_or v₀ q nan

  pub taken_none : (w : ℕ) (v : List Float) → TakenFrom w w v v
  taken_none w v =
      let none : w - w ≡ 0 = omega arith in
      record { size = refl; done = λ q p h. absurd (omega arith); rest = λ q p. rw none (sym (minus_none _ _ _)); under = λ q p. refl }

  pub taken_all : (w : ℕ) (v₀ v : List Float) → TakenFrom w 0 v₀ v → BackwardDone coefficient w w v₀ v
  taken_all w v₀ v s = record { size = s.size; inside = λ q h. s.done q (omega arith) h; under = s.under }

  less_next :
      (w q p : ℕ) (t : Float) (v : List Float) → q < w →
      sub binary64 (less_rows w (w - (q + 1)) p t v) (mul binary64 (coefficient q p) (get_or v q nan)) ≡ less_rows w (w - q) p t v
  less_next w q p t v h =
      let last : w - 1 - (w - (q + 1)) ≡ q = omega arith in
      let count : w - (q + 1) + 1 ≡ w - q = omega arith in
      ap (λ a. sub binary64 (less_rows w (w - (q + 1)) p t v) (mul binary64 (coefficient a p) (get_or v a nan))) (sym last)
      ∙ sym (minus_next (λ k. coefficient (w - 1 - k) p) (λ k. get_or v (w - 1 - k) nan) (w - (q + 1)) t)
      ∙ ap (λ m. less_rows w m p t v) count

  -- row q is finished, and then its products are taken
  pub taken_next :
      (w q : ℕ) (v₀ v v' : List Float) (x : Float) → q < w → w ≤ length v₀ → x ≡ div binary64 (get_or v q nan) (coefficient q q) →
      TakenFrom w (q + 1) v₀ v → RowTaken coefficient q x 0 q (set v q x) v' → TakenFrom w q v₀ v'
  taken_next w q v₀ v v' x h fits e s row =
      record {
        size = row.size ∙ length-set v q x ∙ s.size;
        done =
            let count : w - (q + 1) ≡ w - 1 - q = omega arith in
            finished_next w q v₀ v v' later s.done
            (own ∙ e
            ∙ ap (λ t. div binary64 t (coefficient q q)) (s.rest q (omega arith) ∙ ap (λ m. less_rows w m q (get_or v₀ q nan) v) count));
        rest = λ p k.
            row.inside p (omega arith) k
            ∙ ap₂ (λ t u. sub binary64 t (mul binary64 (coefficient q p) u))
            (get_or-set_other v q p x nan (λ g. omega arith) ∙ s.rest p (omega arith)
            ∙ less_kept w (w - (q + 1)) q p (get_or v₀ p nan) v v' (omega arith) later)
            (sym own)
            ∙ less_next w q p (get_or v₀ p nan) v' h;
        under = λ p k. later p (omega arith) ∙ s.under p k;
      }
    where
      later : (i : ℕ) → q < i → get_or v' i nan ≡ get_or v i nan
      later i p = row.after i (omega arith) ∙ get_or-set_other v q i x nan (λ g. omega arith)

      own : get_or v' q nan ≡ x
      own = row.after q (omega arith) ∙ get_or-set_same v q x nan (omega (arith, s.size))

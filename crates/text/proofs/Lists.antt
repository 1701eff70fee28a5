-- Laws of lists: what stands from a store on, and arrays of zeros lent in part. Assumes nothing.
use Prim.Native.Nat.{ℕ, suc, ◌+◌, ◌-◌, ◌≤◌, ◌<◌}
use native.Mathlib.Omega.{arith}
use mathlib.Core.Path.{◌≡◌, sym, ap, ◌∙◌}
use mathlib.Core.List.{List, ◌∷◌}
use lib.ListN.{length, take, drop, set, replicate, length-set, length-replicate, replicate-append-replicate}
use lib.Seq.{take_at, drop-cons, drop-set-lt, get_or-set_same}

pub drop_set : {A : Type 0} (l : List A) (j : ℕ) (a : A) → j < length l → drop j (set l j a) ≡ a ∷ drop (suc j) l
drop_set l j a h =
    drop-cons (set l j a) j a (omega (arith, length-set l j a))
    ∙ ap (λ x. x ∷ drop (suc j) (set l j a)) (get_or-set_same l j a a h)
    ∙ ap (λ r. a ∷ r) (drop-set-lt (suc j) l j a (omega arith))

-- ---- arrays of zeros, lent in part

pub take_zeros : {A : Type 0} (size k : ℕ) (z : A) → k ≤ size → take k (replicate size z) ≡ replicate k z
take_zeros size k z h =
    let e : size ≡ k + (size - k) = omega arith in
    ap (λ (s : ℕ). take k (replicate s z)) e ∙ ap (take k) (sym (replicate-append-replicate k (size - k) z)) ∙ take_at (replicate k z) (replicate (size - k) z) k (length-replicate k z)

pub length_zeros : {A : Type 0} (size k : ℕ) (z : A) → k ≤ size → k ≡ length (take k (replicate size z))
length_zeros size k z h = sym (ap length (take_zeros size k z h) ∙ length-replicate k z)

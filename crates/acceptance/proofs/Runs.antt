-- Laws of the runs of specs/Counts.antt: the code of a system that was filled in, with work memory lent from an array of zeros. Assumes nothing.
use Prim.Native.Nat.{ℕ, ◌*◌, ◌≤◌}
use native.Mathlib.Nat.{mul-le-mul}
use mathlib.Core.Path.{◌≡◌, ap, ap₂, ◌∙◌}
use mathlib.Core.List.{List, []}
use lib.ListN.{take, replicate}
use lib.Ieee.{Float, binary64, of_bits}
use Rattle.shape.specs.Places.{triangle}
use Rattle.text.proofs.Lists.{take_zeros}
use Rattle.acceptance.specs.declared.Run.{Run}
use Rattle.acceptance.specs.Systems.{wholes, values}
use Rattle.acceptance.specs.Counts.{ended_on, code_of}

pub square_small : (n : ℕ) → n ≤ 3 → n * n ≤ 9
square_small n h = mul-le-mul h h

pub code_of_filled :
    (run : Run) (n t count code : ℕ) (memory : List Float) → n ≤ 3 → count ≡ triangle n → memory ≡ values (wholes count t) →
    code ≡ (ended_on run n memory [] (take (n * n) (replicate 9 (of_bits binary64 0)))).solver_result.code → code ≡ code_of run n t
unfolding code_of of_bits
code_of_filled run n t count code memory h e f g =
    g
    ∙ ap₂ (λ m w. (ended_on run n m [] w).solver_result.code) (f ∙ ap (λ k. values (wholes k t)) e) (take_zeros 9 (n * n) (of_bits binary64 0) (square_small n h))

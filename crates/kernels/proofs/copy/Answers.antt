-- `kernels::copy` meets its contract: a part that is all of a list. Assumes nothing.
use native.Mathlib.Nat.{zero-add}
use native.Mathlib.Omega.{arith}
use lib.Seq.{ext_get_or}
use lib.Ieee.{nan}
use Rattle.kernels.proofs.copy.Goals as goal

pub returns : goal.returns
returns c =
    ext_get_or nan _ _ (omega (arith, c.copy_part.ensures.size)) (λ q h. (simp zero-add at (c.copy_part.ensures.inside q (omega (arith, c.copy_part.ensures.size)))))

-- `checks::rules::check_rhs` meets its contract: the tests that led to each return decide the rules. The product is below 2^64 as both factors are
-- bounded. Assumes nothing.
use Prim.Native.Nat.{◌*◌, ◌≤◌}
use native.Mathlib.Omega.{arith}
use mathlib.Core.Path.{◌≡◌, refl}
use mathlib.Core.Bool.{true, false}
use borrow.Author.Tests.{ltb-false, eq-eqb, ne_eqb}
use lib.Dec.{ltb}
use Rattle.shape.specs.Bounds.{max_rhs}
use Rattle.shape.proofs.Bounds.{product_fits}
use Rattle.calls.specs.Refusals.{first_refusal, rule5, rule6}
use Rattle.calls.proofs.Judging.{not_leb}
use Rattle.checks.proofs.rules.check_rhs.Goals as goal

pub returns-then-not-rhs_in_bounds : goal.returns-then-not-rhs_in_bounds
unfolding first_refusal rule5 rule6
returns-then-not-rhs_in_bounds c =
    let args = c.args in
    let e5 : ltb max_rhs args.m ≡ true = cc (not_leb args.m max_rhs) in
    rw e5 refl

pub overflow_mul-shape : goal.overflow_mul-shape
overflow_mul-shape c =
    let args = c.args in
    let e5 : ltb max_rhs args.m ≡ false = cc (not_leb args.m max_rhs) in
    let bounded : args.m ≤ max_rhs = ltb-false max_rhs args.m e5 in
    product_fits args.shape.order args.m (omega arith) (omega arith)

pub returns-then-rhs-shape : goal.returns-then-rhs-shape
unfolding first_refusal rule5 rule6
returns-then-rhs-shape c =
    let args = c.args in
    let e5 : ltb max_rhs args.m ≡ false = cc (not_leb args.m max_rhs) in
    rw (e5, ne_eqb args.rhs (args.shape.order * args.m) c.if-rhs-shape.true) refl

pub returns : goal.returns
unfolding first_refusal rule5 rule6
returns c =
    let args = c.args in
    let e5 : ltb max_rhs args.m ≡ false = cc (not_leb args.m max_rhs) in
    rw (e5, eq-eqb args.rhs (args.shape.order * args.m) c.if-rhs-shape.false) refl

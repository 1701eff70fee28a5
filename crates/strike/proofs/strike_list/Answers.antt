-- `strike::strike_list` meets its contract: the unknowns kept are rising and below n, their entries stand in front, and the rest is cleared. Assumes nothing.
use Prim.Native.Nat.{ℕ, ◌+◌, ◌≤◌}
use native.Mathlib.Omega.{arith}
use mathlib.Core.Path.{◌≡◌, sym, ap, ◌∙◌, subst}
use mathlib.Core.List.{List}
use lib.Ieee.{of_bits}
use lib.ListN.{length, take}
use Rattle.shape.specs.Places.{triangle}
use Rattle.shape.proofs.Bounds.{triangle_mono}
use Rattle.calls.specs.Refusals.{success, rule20}
use Rattle.calls.specs.Strikes.{kept, Fresh}
use Rattle.strike.proofs.Strikes.{rule20_accepted, length_kept, kept_at_most}
use Rattle.strike.specs.Rows.{Unknowns}
use Rattle.strike.proofs.Results.{kept_unknowns, struck_of}
use Rattle.strike.proofs.strike_list.Goals as goal

-- the list and the unknowns kept are n together
together : (n : ℕ) (list : List ℕ) → rule20 n list ≡ success → length (kept list n) + length list ≡ n
together n list h = length_kept n list (rule20_accepted n list (rw h tt))

pub move_columns-size-requires : goal.move_columns-size-requires
move_columns-size-requires c =
    let n = c.args.shape.order in
    record { order_le_max_order = c.requires.order_le_max_order; unknowns = subst (Unknowns n) (sym c.keep-unknowns.ensures) (kept_unknowns c.args.list.now n) }

-- what was moved are the entries of the unknowns kept
size_kept : (n size : ℕ) (list unknowns : List ℕ) → size ≡ triangle (length unknowns) → unknowns ≡ kept list n → size ≡ triangle (length (kept list n))
size_kept n size list unknowns e same = e ∙ ap (λ xs. triangle (length xs)) same

size_le : (n size : ℕ) (list unknowns : List ℕ) → size ≡ triangle (length unknowns) → unknowns ≡ kept list n → size ≤ triangle n
size_le n size list unknowns e same =
    omega (arith, size_kept n size list unknowns e same, triangle_mono (length (kept list n)) n (kept_at_most list n))

pub returns : goal.returns
unfolding of_bits
returns c =
    let a = c.args in
    let n = a.shape.order in
    let list = a.list.now in
    let m = c.move_columns-size.new.matrix in
    let size = c.move_columns-size.result in
    struck_of list n size a.matrix.now m c.fill.new.self (size_kept n size list _ c.move_columns-size.ensures.value c.keep-unknowns.ensures)
    c.move_columns-size.auto.matrix
    (omega (arith, size_le n size list _ c.move_columns-size.ensures.value c.keep-unknowns.ensures, c.move_columns-size.auto))
    (subst (λ xs. Fresh xs n a.matrix.now (take (triangle (length xs)) m)) c.keep-unknowns.ensures c.move_columns-size.ensures.fresh)
    (c.fill.ensures.after (λ y e. e))

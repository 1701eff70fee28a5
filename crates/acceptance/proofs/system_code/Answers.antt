-- The arrays have room for the entries and for the work memory, which is zero.
use Prim.Native.Nat.{◌≤◌}
use native.Mathlib.Omega.{arith}
use mathlib.Core.Path.{◌≡◌, sym, ap, ◌∙◌}
use lib.Ieee.{binary64, of_bits}
use Rattle.shape.specs.Places.{triangle}
use Rattle.text.proofs.Lists.{length_zeros}
use Rattle.acceptance.proofs.Systems.{triangle_small}
use Rattle.acceptance.proofs.Runs.{code_of_filled}
use Rattle.acceptance.proofs.system_code.Goals as goal

entries_are : (c : goal.After-triangle-entries) → c.triangle-entries.result ≡ triangle c.args.n
entries_are c = c.triangle-entries.ensures ∙ ap triangle c.new.ensures.0

pub slice_bounds-matrix-end : goal.slice_bounds-matrix-end
slice_bounds-matrix-end c = omega (arith, entries_are c, triangle_small c.args.n c.requires)

pub slice_bounds-matrix-end-2 : goal.slice_bounds-matrix-end-2
slice_bounds-matrix-end-2 c =
    length_zeros 6 c.triangle-entries.result (of_bits binary64 0) (omega (arith, entries_are c.before, triangle_small c.args.n c.requires))

pub returns : goal.returns
returns c =
    let a = c.args in
    let entries : c.triangle-entries.result ≡ triangle a.n = c.triangle-entries.ensures ∙ ap triangle c.new.ensures.0 in
    let fit : c.triangle-entries.result ≤ 6 = omega (arith, entries, triangle_small a.n c.requires) in
    code_of_filled a.run a.n a.t _ c.code.result c.fill_system.new.matrix c.requires
    (sym (length_zeros 6 c.triangle-entries.result (of_bits binary64 0) fit) ∙ entries)
    c.fill_system.ensures
    c.code.ensures

-- `job_format::writer::map_byte` meets its contract. The loop goes from the highest bit down; the bits from k on are in the byte. Assumes nothing.
use Prim.Native.Nat.{◌+◌, ◌-◌}
use native.Mathlib.Omega.{arith}
use mathlib.Core.Path.{refl, ap, ◌∙◌}
use Rattle.std.specs.Int.{from_bool}
use Rattle.job_format.specs.Rewriting.{stands}
use Rattle.job_format.proofs.Digits.{bit, bit_from, down_none, down_turn, down_fits, down_all}
use Rattle.job_format.proofs.writer.map_byte.Goals as goal

pub loop-k-init : goal.loop-k-init
loop-k-init c = down_none (stands c.args.matrix.now) c.args.first 8

pub overflow_mul-byte : goal.overflow_mul-byte
overflow_mul-byte c =
    let a = c.args in
    let f = stands a.matrix.now in
    omega (arith, down_fits f a.first 8 c.loop-k.byte c.loop-k.k c.loop-k-test.true c.loop-k.invariant (bit (f (a.first + (c.loop-k.k - 1)))) refl)

pub overflow_add-byte : goal.overflow_add-byte
overflow_add-byte c =
    let a = c.args in
    let e = c.from.ensures ∙ ap from_bool c.stands.ensures ∙ bit_from (stands a.matrix.now (a.first + (c.loop-k.k - 1))) in
    record { fits = down_fits (stands a.matrix.now) a.first 8 c.loop-k.byte c.loop-k.k c.loop-k-test.true c.loop-k.invariant c.from.result e }

pub loop-k-preserved : goal.loop-k-preserved
loop-k-preserved c =
    let a = c.args in
    let e = c.from.ensures ∙ ap from_bool c.stands.ensures ∙ bit_from (stands a.matrix.now (a.first + (c.loop-k.k - 1))) in
    down_turn (stands a.matrix.now) a.first 8 c.loop-k.byte c.loop-k.k c.loop-k-test.true c.loop-k.invariant c.from.result e

pub returns : goal.returns
returns c = down_all (stands c.args.matrix.now) c.args.first 8 c.loop-k.byte c.loop-k.k c.loop-k-test.false c.loop-k.invariant

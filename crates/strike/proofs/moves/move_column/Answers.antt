-- `strike::moves::move_column` meets its contract. Assumes nothing.
use Prim.Native.Nat.{◌+◌, ◌*◌, ◌/◌, ◌<◌}
use native.Mathlib.Omega.{arith}
use mathlib.Core.Path.{◌≡◌, refl}
use lib.ListN.{length}
use Rattle.strike.proofs.Rows.{part_drop, length_chunk, part_chunk, rising_part, ahead_part, moved_next}
use Rattle.strike.proofs.moves.move_column.Goals as goal

pub move16-requires : goal.move16-requires
move16-requires c =
    let a = c.args in
    let at = c.loop-chunk in
    let chunk = rw (← c.as_chunks.ensures.front) at (part_chunk a.rows.now at.chunk-index (omega (arith, c.as_chunks.ensures.front_len))) in
    record {
      ahead = rw at.invariant.1.size (ahead_part a.rows.now _ a.base a.to _ at.to _ at.invariant.0 chunk c.requires.ahead);
      rising = rising_part chunk c.requires.rising;
    }

pub loop-chunk-preserved : goal.loop-chunk-preserved
loop-chunk-preserved c =
    let a = c.args in
    let at = c.loop-chunk in
    let inside : at.chunk-index < length a.rows.now / 16 = omega (arith, c.as_chunks.ensures.front_len) in
    let chunk = rw (← c.as_chunks.ensures.front) at (part_chunk a.rows.now at.chunk-index inside) in
    let size = rw (← c.as_chunks.ensures.front) at (length_chunk a.rows.now at.chunk-index inside) in
    let more : 16 * (at.chunk-index + 1) ≡ 16 * at.chunk-index + 16 = omega arith in
    rw more (omega (arith, at.invariant.0), moved_next a.rows.now _ a.base a.to _ at.to _ at.invariant.0 chunk c.requires.ahead 16 a.m.now at.m _ size at.invariant.1 c.move16.ensures)

pub returns : goal.returns
returns c =
    let a = c.args in
    let at = c.loop-chunk in
    let count = length a.rows.now in
    let done : 16 * at.chunk-index ≡ count / 16 * 16 = omega (arith, c.as_chunks.ensures.front_len) in
    let all : 16 * at.chunk-index + length c.as_chunks.result.1.now ≡ count = omega (arith, done, c.as_chunks.ensures.back_len) in
    let rest = rw (← c.as_chunks.ensures.back, ← done) at (part_drop a.rows.now (count / 16 * 16) (omega arith)) in
    rw all at (moved_next a.rows.now c.as_chunks.result.1.now a.base a.to _ at.to _ at.invariant.0 rest c.requires.ahead (length c.as_chunks.result.1.now) a.m.now at.m _ refl at.invariant.1 c.move_values.ensures)

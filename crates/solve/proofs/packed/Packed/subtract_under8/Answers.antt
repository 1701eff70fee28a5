-- `solve::packed::Packed::subtract_under8` meets its contract: eight rows are loaded, reduced and stored. Assumes nothing.
use Prim.Native.Nat.{ℕ, ◌+◌, ◌<◌}
use native.Mathlib.Nat.{zero-add}
use native.Mathlib.Omega.{arith}
use mathlib.Core.Path.{◌≡◌, ap, ◌∙◌}
use mathlib.Core.List.{List}
use lib.ListN.{get_or, length-take, length-drop}
use Rattle.shape.specs.Places.{packed_place}
use Rattle.solve.proofs.PackedTurns.{under8_done, under8_room}
use Rattle.solve.proofs.packed.Packed.subtract_under8.Goals as goal

-- the eight places
places :
    (h n : ℕ) (at : List ℕ) → h ≡ n → ((k : ℕ) → k < 8 → get_or at k 0 ≡ packed_place h 8 (0 + k)) →
    (s : ℕ) → s < 8 → get_or at s 0 ≡ packed_place n 8 s
places h n at same each s few = each s few ∙ ap (packed_place h 8) (zero-add s) ∙ ap (λ k. packed_place k 8 s) same

pub subtract_falling-values-requires : goal.subtract_falling-values-requires
subtract_falling-values-requires c =
    let f = c.args.self.now in (
      omega arith,
      (
        omega arith,
        λ s few. simp (length-take, length-drop) (omega (
          arith,
          places c.new.result.order f.order c.packed_places-places.result c.new.ensures.0 c.packed_places-places.ensures s few,
          under8_room f.order s few (omega arith),
        )),
      ),
    )

pub returns : goal.returns
returns c =
    let f = c.args.self.now in
    under8_done f.order f.matrix.now c.args.work.now c.load.result c.subtract_falling-values.result _ (λ s. get_or c.packed_places-places.result s 0)
    (omega arith) (omega arith) c.load.ensures
    (places c.new.result.order f.order c.packed_places-places.result c.new.ensures.0 c.packed_places-places.ensures)
    c.subtract_falling-values.ensures c.store.ensures

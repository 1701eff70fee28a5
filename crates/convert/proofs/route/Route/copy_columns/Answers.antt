-- `convert::route::Route::copy_columns` meets its contract. Assumes nothing.
use mathlib.Core.Path.{◌≡◌, refl, sym, ap, ◌∙◌}
use Prim.Native.Nat.{ℕ, ◌+◌, ◌-◌, ◌<◌, ◌≤◌}
use native.Mathlib.Omega.{arith}
use mathlib.Core.List.{List}
use lib.ListN.{get_or}
use lib.Ieee.{Float, nan}
use Rattle.shape.specs.Layouts.{Entry}
use Rattle.calls.specs.declared.Conversion.{Conversion}
use Rattle.calls.specs.Conversions.{reverse, source_place, target_place}
use Rattle.calls.proofs.Conversions.{target_bijection}
use Rattle.kernels.specs.Kernels.{Filled, row_at}
use Rattle.kernels.proofs.Transfers.{join_columns, moved_rows}
use Rattle.convert.specs.Halves.{ByColumns, Moved}
use Rattle.convert.proofs.Halves.{down_column, from_left}
use Rattle.convert.proofs.route.Route.copy_columns.Goals as goal

-- column j, copied as it is
copied : (conversion : Conversion) (form n left right j from to k : ℕ) (source t t' : List Float)
    → ByColumns form n left right
    → left ≤ j
    → j < right
    → j < n
    → (from ≡ source_place conversion form n j j) × (to ≡ target_place conversion form n j j)
    → k ≡ n - j
    → Filled nan to k (row_at source from) t t'
    → Moved conversion form n 0 n j (j + 1) source t t'
copied conversion form n left right j from to k source t t' columns low high inside at count filled =
    let whole : j + k ≡ n = omega arith in
    let column = moved_rows (source_place conversion form n) (target_place conversion form n) (Entry n) (target_bijection conversion form n).apart source t to k
    (row_at source from) t' filled j j
    (λ r h. omega arith)
    (λ r h. down_column (reverse conversion) form n left right j r columns low high inside ∙ ap (λ q. q + r) (sym at.1))
    (λ r h.
    ap (λ p. get_or source p nan) (ap (λ p. p + r) at.0 ∙ sym (down_column conversion form n left right j r columns low high inside)))
    in
    from_left conversion form n (rw whole at column)

pub loop-j-preserved : goal.loop-j-preserved
loop-j-preserved c =
    let self = c.args.self in (
      omega arith,
      join_columns c.loop-j.invariant.1
          (copied self.conversion self.form self.shape.order c.args.left c.args.right c.loop-j.j c.places-from.result.0 c.places-from.result.1 _ c.args.source.now
          c.loop-j.target c.copy_part.new.to c.requires.by_columns (omega arith) (omega arith) (omega arith) c.places-from.ensures refl c.copy_part.ensures),
    )

-- `blocked_factor::factor_step` meets its contract. Assumes nothing.
use native.Mathlib.Omega.{arith}
use Prim.Native.Nat.{ℕ, ◌+◌, ◌-◌, ◌≤◌}
use mathlib.Core.Path.{◌≡◌, refl, sym, subst, ◌∙◌}
use mathlib.Core.Bool.{Bool, true, false}
use lib.Dec.{T}
use Rattle.std.specs.Prelude.{Result, Ok, Err}
use Rattle.std.specs.Result.{is_err}
use Rattle.shape.specs.Places.{block_start, block_work, width}
use Rattle.calls.specs.declared.outcomes.Refusal.{Refusal}
use Rattle.calls.specs.Refusals.{accepted}
use Rattle.calls.specs.Outcomes.{judgement_of}
use Rattle.calls.proofs.OutcomeLaws.{not_accepted}
use Rattle.blocked_factor.specs.BlockColumns.{row_start}
use Rattle.blocked_factor.specs.BlockSteps.{BlockAt}
use Rattle.blocked_factor.proofs.EarlierBlocks.{block_room}
use Rattle.blocked_factor.proofs.BlockParts.{size_le, done_accepted, done_refused}
use Rattle.blocked_factor.proofs.factor_step.Goals as goal

-- whether the block column is refused
refused : (r : Result Bool Refusal) → is_err r ≡ true → accepted (judgement_of r).verdict ≡ false
refused (Ok e) h = absurd (subst T (sym h) tt)
refused (Err r) h = not_accepted r

passed : (r : Result Bool Refusal) → is_err r ≡ false → accepted (judgement_of r).verdict ≡ true
passed (Ok e) h = refl
passed (Err r) h = absurd (subst T h tt)

-- the block column's values lie in the matrix memory, and there is room for them in the work memory
places :
    {n b c len start size w h work_length : ℕ} → BlockAt n b c len → work_length ≡ block_work n b → start ≡ block_start n c → w ≡ width n b c →
    h ≡ n - c → size ≡ row_start w h → (size ≡ row_start (width n b c) (n - c)) × (start + size ≤ len) × (size ≤ work_length)
places here full e wide tall s =
    let size = rw (wide, tall) at s in
    (size, omega (arith, e, size, block_room here), omega (arith, full, size, size_le here))

pub copy_part-requires : goal.copy_part-requires
copy_part-requires c =
    let column = c.new-column.ensures in
    omega (arith, places c.requires.block_at c.requires.work_len column.1 column.2 column.3 c.size-size.ensures)

pub copy_part-requires-then-is_err : goal.copy_part-requires-then-is_err
copy_part-requires-then-is_err c =
    let column = c.new-column.ensures in
    omega (
      arith,
      places c.requires.block_at c.requires.work_len column.1 column.2 column.3 c.size-size.ensures,
      c.copy_part.ensures.size,
      c.factor_part-judged.auto.work,
      c.factor_part-judged.ensures.block_factored.kept,
    )

pub returns-then-is_err : goal.returns-then-is_err
returns-then-is_err c =
    let column = c.new-column.ensures in
    let places = places c.requires.block_at c.requires.work_len column.1 column.2 column.3 c.size-size.ensures in
    let refused = refused c.factor_part-judged.result (sym c.is_err.ensures.value ∙ c.if-is_err.true) in
    done_refused c.requires.block_at column.1 places.0 c.copy_part.ensures
    c.factor_part-judged.ensures.block_factored refused c.factor_part-judged.ensures.same_to c.copy_part-then-is_err.ensures

pub returns-else-is_err : goal.returns-else-is_err
returns-else-is_err c =
    let column = c.new-column.ensures in
    let places = places c.requires.block_at c.requires.work_len column.1 column.2 column.3 c.size-size.ensures in
    let accepted = passed c.factor_part-judged.result (sym c.is_err.ensures.value ∙ c.if-is_err.false) in
    done_accepted c.requires.block_at column.1 places.0 c.copy_part.ensures c.factor_part-judged.ensures.block_factored accepted

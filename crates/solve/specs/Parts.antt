-- The factors and the parts of one that the substitutions work on: their entries, and which part of its factor each is.
use Rattle.std.specs.Prelude.{ℕ, ◌+◌, ◌-◌, ◌≡◌, ◌⊎◌, drop, Float}
use Rattle.shape.specs.Places.{triangle, packed_place, block_of, block_start, width, place_in_block, blocked_place}
use Rattle.calls.specs.Triangles.{Triangle, height, load, place_from}
use Rattle.kernels.specs.declared.tiles.Run.{Run}
use Rattle.solve.specs.declared.packed.Packed.{Packed}
use Rattle.solve.specs.declared.blocked.Blocked.{Blocked}
use Rattle.solve.specs.declared.block_column.BlockColumn.{BlockColumn}
use Rattle.solve.specs.declared.runs.ColumnRun.{ColumnRun}
use Rattle.solve.specs.declared.rhs.Factor.{Factor}
use Rattle.solve.specs.Substitution.{entries_at}
use Rattle.solve.specs.Solving.{factor_of}

-- ---- factors

abbrev pub packed_entries : Packed → ℕ → ℕ → Float
packed_entries f = entries_at (packed_place f.order) f.matrix.now

abbrev pub packed_factor : Packed → Triangle
packed_factor f = load (packed_place f.order) (height f.order) f.order f.matrix.now

abbrev pub blocked_entries : Blocked → ℕ → ℕ → Float
blocked_entries f = entries_at (blocked_place f.shape.order f.shape.block) f.matrix.now

abbrev pub blocked_factor : Blocked → Triangle
blocked_factor f = load (blocked_place f.shape.order f.shape.block) (height f.shape.order) f.shape.order f.matrix.now

-- one that the checks have passed, from its first column on
abbrev pub trailing_of : Factor → Triangle
trailing_of f = factor_of f.layout f.shape.order f.shape.block f.first f.matrix.now

-- ---- a block column

-- the rows and columns that are left count from 0
abbrev pub block_entries : BlockColumn → ℕ → ℕ → Float
block_entries block = entries_at (place_from block.skip (place_in_block (block.skip + block.w))) block.part.now

-- the first `rows` rows of a matrix of order n end with a block column
abbrev pub EndsBlock : ℕ → ℕ → ℕ → Type 0
EndsBlock n b rows = (rows ≡ n) ⊎ (block_of b rows ≡ rows)

-- what is left, from column k on, of the block column that holds it, with the rows before `rows`
pub record TrailingOf (f : Blocked) (rows k : ℕ) (block : BlockColumn) : Type 0 where
  pub skip : block_of f.shape.block k + block.skip ≡ k
  pub h : block.h ≡ rows - k
  pub w : block.skip + block.w ≡ width f.shape.order f.shape.block (block_of f.shape.block k)
  pub part : block.part.now ≡ drop (block_start f.shape.order (block_of f.shape.block k)) f.matrix.now

-- ---- a run of block columns

-- the one that begins with column c
pub record RunAt (f : Blocked) (c : ℕ) (run : ColumnRun) : Type 0 where
  pub order : run.memory.shape.order ≡ f.shape.order - c
  pub block : run.memory.shape.block ≡ f.shape.block
  pub part : run.memory.matrix.now ≡ drop (block_start f.shape.order c) f.matrix.now

-- its numbers, for the kernels
pub record RunIs (run : ColumnRun) (numbers : Run) : Type 0 where
  pub start : numbers.start ≡ 0
  pub order : numbers.order ≡ run.memory.shape.order
  pub block : numbers.block ≡ run.memory.shape.block
  pub corner : numbers.corner ≡ triangle run.memory.shape.block
  pub columns : numbers.columns ≡ run.w

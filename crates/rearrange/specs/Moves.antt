-- What the functions inside the rearrangers promise of a block column of n rows and w columns: the first block column of the shape (n, w).
-- Its entries move from a source to a target memory, to their places in the layout `to` from those in the other. Row r, column s of the block
-- column is entry (r, s), s < w, of a triangle of order n.
use Rattle.std.specs.Prelude.{ℕ, ◌≤◌, ◌<◌, ◌≡◌, List, length, get_or, Float}
use Rattle.std.specs.Float.{nan}
use Rattle.shape.specs.Places.{packed_place, block_start, place_in_block}
use Rattle.shape.specs.Layouts.{Entry}
use Rattle.calls.specs.declared.Layout.{Layout}
use Rattle.calls.specs.declared.Layout.TheVariants.{Packed, Blocked}
use Rattle.kernels.specs.Transfers.{Same, Transferred}

abbrev pub other : Layout → Layout
other Packed = Blocked
other Blocked = Packed

-- of a place in packed order and a place in blocked order, that of the layout
abbrev pub in_layout : Layout → ℕ → ℕ → ℕ
in_layout Packed p q = p
in_layout Blocked p q = q

-- the place of entry (r, s), from the block column's start
abbrev pub place_in_part : Layout → ℕ → ℕ → ℕ → ℕ → ℕ
place_in_part layout n w r s = in_layout layout (packed_place n r s) (place_in_block w r s)

-- the entries that both memories hold
abbrev pub InColumn : ℕ → ℕ → ℕ → ℕ → Type 0
InColumn n w r s = Entry n r s × (s < w)

-- both memories hold the block column
abbrev pub Held : ℕ → ℕ → List Float → List Float → Type 0
Held n w source target = (block_start n w ≤ length source) × (block_start n w ≤ length target)

-- the entries of rows first .. end − 1 and columns left .. right − 1 were moved
abbrev pub Moved : Layout → ℕ → ℕ → ℕ → ℕ → ℕ → ℕ → List Float → List Float → List Float → Type 0
Moved to n w first end left right source target target' =
    Transferred (place_in_part (other to) n w) (place_in_part to n w) (InColumn n w) first end left right source target target'

-- All entries of the block column were moved inside its own memory, which stays as it was behind them.
pub record MovedWithin (to : Layout) (n w : ℕ) (memory memory' : List Float) : Type 0 where
  pub moved : (r s : ℕ) → Entry n r s → s < w → Same (place_in_part (other to) n w) (place_in_part to n w) memory memory' r s
  pub kept : (p : ℕ) → block_start n w ≤ p → get_or memory' p nan ≡ get_or memory p nan

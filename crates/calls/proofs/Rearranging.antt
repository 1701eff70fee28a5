-- What moves from a layout to another and back is what it was, on memory of every content; so each rearranger undoes the other, for every n and every
-- b ≥ 1. Assumes nothing.
use Prim.Native.Nat.{ℕ, ◌≤◌, ◌<◌}
use native.Mathlib.Omega.{arith}
use mathlib.Core.Path.{◌≡◌, refl, sym, ap, ◌∙◌}
use mathlib.Core.List.{List}
use lib.ListN.{length, get_or}
use lib.Ieee.{Float, nan}
use Rattle.shape.specs.Places.{triangle}
use Rattle.shape.specs.Layouts.{Entry, Bijection}
use Rattle.shape.proofs.Bijections.{packed_bijection, blocked_bijection}
use Rattle.calls.specs.declared.Layout.{Layout}
use Rattle.calls.specs.declared.Layout.TheVariants.{Packed, Blocked}
use Rattle.calls.specs.Triangles.{place_of, height, load, store, transfer}
use Rattle.calls.specs.Calls.{moved}
use Rattle.calls.proofs.Triangles.{shaped_load, entry_load, length_store, store_same, memory_ext, load_store, store_whole, store_load}

-- ---- between any two layouts

module _ (from to : ℕ → ℕ → ℕ) (n : ℕ) (bij : Bijection to n) (source target : List Float) (whole : length target ≡ triangle n) where
  pub length_transfer : length (transfer from to n source target) ≡ triangle n
  length_transfer = length_store to n bij (load from (height n) n source) target ∙ whole

  -- the same matrix stands in the other layout
  pub load_transfer : load to (height n) n (transfer from to n source target) ≡ load from (height n) n source
  load_transfer = load_store to n bij (load from (height n) n source) target (shaped_load from n source) (omega arith)

  -- whatever stood in the target
  pub transfer_whole : (target' : List Float) → length target' ≡ triangle n → transfer from to n source target ≡ transfer from to n source target'
  transfer_whole target' e = store_whole to n bij (load from (height n) n source) target target' (shaped_load from n source) whole e

  -- a memory that has each entry of the source at its place
  pub transfer_entries :
      (m : List Float) → length m ≡ triangle n → ((i j : ℕ) → Entry n i j → get_or m (to i j) nan ≡ get_or source (from i j) nan) →
      m ≡ transfer from to n source target
  transfer_entries m e same =
      memory_ext to n bij m (transfer from to n source target) e length_transfer
      (λ i j en.
      same i j en
      ∙ sym
      (store_same to n bij (load from (height n) n source) n (shaped_load from n source) target (omega arith) i j nan en
      (omega (arith, en.lower, en.inside))
      ∙ entry_load from n source i j en))

pub transfer_back :
    (from to : ℕ → ℕ → ℕ) (n : ℕ) → Bijection from n → Bijection to n → (source target other : List Float) →
    length source ≡ triangle n → length target ≡ triangle n → length other ≡ triangle n →
    transfer to from n (transfer from to n source target) other ≡ source
transfer_back from to n bij bij' source target other e e' e'' =
    ap (λ t. store from t other) (load_transfer from to n bij' source target e')
    ∙ store_whole from n bij (load from (height n) n source) other source (shaped_load from n source) e'' e
    ∙ store_load from n bij source e

-- ---- between packed and blocked order

pub place_bijection : (layout : Layout) (n b : ℕ) → (layout ≡ Blocked → 0 < b) → Bijection (place_of layout n b) n
unfolding place_of
place_bijection Packed n b h = packed_bijection n
place_bijection Blocked n b h = blocked_bijection n b (h refl)

pub layout_bijection : (layout : Layout) (n b : ℕ) → 1 ≤ b → Bijection (place_of layout n b) n
layout_bijection layout n b h = place_bijection layout n b (λ e. h)

module _ (from to : Layout) (n b : ℕ) (positive : 1 ≤ b) (m : List Float) (whole : length m ≡ triangle n) where
  pub length_moved : length (moved from to n b m) ≡ triangle n
  unfolding moved
  length_moved = length_transfer (place_of from n b) (place_of to n b) n (layout_bijection to n b positive) m m whole

  pub load_moved : load (place_of to n b) (height n) n (moved from to n b m) ≡ load (place_of from n b) (height n) n m
  unfolding moved
  load_moved = load_transfer (place_of from n b) (place_of to n b) n (layout_bijection to n b positive) m m whole

pub moved_back : (from to : Layout) (n b : ℕ) → 1 ≤ b → (m : List Float) → length m ≡ triangle n → moved to from n b (moved from to n b m) ≡ m
unfolding moved
moved_back from to n b h m e =
    transfer_back (place_of from n b) (place_of to n b) n (layout_bijection from n b h) (layout_bijection to n b h) m m (moved from to n b m) e e
    (length_moved from to n b h m e)

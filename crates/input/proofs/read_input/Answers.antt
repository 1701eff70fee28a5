-- After a read the buffer begins with what it held before, and then what the read gave.
use Rattle.std.proofs.Common.{◌≡◌, ℕ, ◌+◌, ◌-◌, ◌≤◌, List, ◌++◌, rules, take, length, sym, ap, ◌∙◌, subst, length-take-le}
use Rattle.std.proofs.lemmas.List.{take-append-le}
use Rattle.std.proofs.Math.Seq.{take-append-add}
use Rattle.std.specs.Io.KnownBytes.{Consumes}
use Rattle.std.proofs.KnownBytes.{Consumes-trans}
use borrow.Rule.Slice.PartMut.{put_mid, post_of}
use Rattle.input.proofs.read_input.Goals as goal

front_and_read : (a k n : ℕ) (xs ys : List ℕ) → a ≤ length xs → n ≤ length ys → take a xs ++ take n ys ≡ take (a + n) (put_mid a k xs ys)
front_and_read a k n xs ys within fits =
    let front : length (take a xs) ≡ a = length-take-le a xs within in
    ap (λ l. take a xs ++ l) (sym (take-append-le n ys (post_of a k xs) fits))
    ∙ sym (take-append-add (take a xs) (ys ++ post_of a k xs) n)
    ∙ ap (λ m. take (m + n) (put_mid a k xs ys)) front

pub loop-at-preserved : goal.loop-at-preserved
loop-at-preserved g c = (
  search rules,
  subst (Consumes _ _)
      (front_and_read c.loop-at.at (length c.loop-at.buffer - c.loop-at.at) c.in-Ok.n c.loop-at.buffer c.read.new.buf c.loop-at.invariant.0 c.in-Ok.ensures.bound.0)
      (Consumes-trans _ _ _ _ _ c.loop-at.invariant.1 c.in-Ok.ensures.bytes.0),
)

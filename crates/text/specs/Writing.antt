-- Text written over memory at a position, which stays as it was elsewhere, and the position after it; and texts one after another.
use Rattle.std.specs.Prelude.{ℕ, ◌+◌, ◌≡◌, List, [], ◌++◌, length, take, drop}
use Rattle.calls.specs.Sequences.{iterate}
use Rattle.text.specs.declared.Writer.{Writer}

abbrev pub overwrite : ℕ → List ℕ → List ℕ → List ℕ
overwrite at text memory = take at memory ++ text ++ drop (at + length text) memory

pub record Written (at : ℕ) (text before : List ℕ) (end : ℕ) (after : List ℕ) : Type 0 where
  pub next : end ≡ at + length text
  pub memory : after ≡ overwrite at text before

-- a writer that wrote a text is one over the same buffer
pub record Puts (text : List ℕ) (before after : Writer) : Type 0 where
  pub same_buffer : after.out.ghost_name ≡ before.out.ghost_name
  pub written : Written before.at text before.out.now after.at after.out.now

-- piece 0, piece 1, .., piece (count − 1)
abbrev pub pieces : (ℕ → List ℕ) → ℕ → List ℕ
pieces piece count = iterate (λ k text. text ++ piece k) count []

-- A text that is laid into lent bytes.
use Rattle.std.specs.Prelude.{◌≡◌, List, ◌++◌, ℕ, ◌+◌, length, take, drop}

-- the text stands at its place up to its end, and no other byte has changed
pub record Laid (text : List ℕ) (at : ℕ) (before after : List ℕ) (end : ℕ) : Type 0 where
  pub ends : end ≡ at + length text
  pub written : after ≡ take at before ++ text ++ drop (at + length text) before

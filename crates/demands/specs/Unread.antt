-- "Words past the stated length are never touched": arrays that differ in such words alone, and in the book's unused words.
use Rattle.std.specs.Prelude.{ℕ, ◌<◌, ◌≡◌, List, length, get_or}
use Rattle.rules.specs.Links.{words, LinkNumber}
use Rattle.buffers.specs.Format.{links_in}
use Rattle.buffers.specs.Post.{Unused}

-- one length, one link number, and where that states a length the same words up to it, but for those of the book that mean nothing
pub record SameUpTo (ws vs : List ℕ) : Type 0 where
  pub long : length vs ≡ length ws
  pub links : links_in vs ≡ links_in ws
  pub words_are : LinkNumber (links_in ws) → (p : ℕ) → p < words (links_in ws) → (Unused (links_in ws) p → ⊥) → get_or vs p 0 ≡ get_or ws p 0

-- An array that has the words of one link has the book's first.
use native.Mathlib.Omega.{arith}
use Rattle.rules.proofs.Sizes.{book_in_words}
use Rattle.queue.proofs.array_checked.Goals as goal

pub links-number-requires : goal.links-number-requires
links-number-requires c = omega (arith, c.words.ensures, book_in_words c.at.result.i)

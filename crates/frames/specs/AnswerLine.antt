-- "Each output line in capital hexadecimal: answer, 2 digits (10 is 0A); word, 16; steps, 8."
use Rattle.std.specs.Prelude.{List, [], ◌∷◌, ◌++◌, ℕ}
use Rattle.frames.specs.Digits.{digits}

-- with its line end 0A
abbrev pub answer_line : ℕ → ℕ → ℕ → List ℕ
answer_line answer word steps = digits 2 answer ++ digits 16 word ++ digits 8 steps ++ (10 ∷ [])

-- The line words of a tree. Assumes nothing.
use Rattle.std.specs.Prelude.{ℕ, ◌+◌, ◌-◌, ◌<◌, List, [], ◌∷◌, ◌++◌, length, slice_index}
use Rattle.lines.specs.declared.Line.TheVariants.{False, True, Mark, One, Two}
use Rattle.lines.specs.Word.{word_of, WellFormed}
use Rattle.formula.specs.Grammar.{Tree, truth, falsity, mark, one, two}

-- how many lines a tree takes: one for each node
abbrev pub size : Tree → ℕ
size truth = 1
size falsity = 1
size (mark m) = 1
size (one o t) = size t + 1
size (two o a b) = size a + size b + 1

-- the number of a tree's own line, its last one, where n lines stand before the tree's
abbrev pub line_of : ℕ → Tree → ℕ
line_of n t = n + size t - 1

-- the words of a tree in postfix order, where n lines stand before them
abbrev pub postfix : ℕ → Tree → List ℕ
postfix n truth = word_of True ∷ []
postfix n falsity = word_of False ∷ []
postfix n (mark m) = word_of (Mark m) ∷ []
postfix n (one o t) = postfix n t ++ (word_of (One o (line_of n t)) ∷ [])
postfix n (two o a b) = postfix n a ++ (postfix (n + size a) b ++ (word_of (Two o (line_of n a) (line_of (n + size a) b)) ∷ []))

-- each word of ws is well formed on a sheet with a marks, the first as line n and the others as those behind it
abbrev pub Formed : ℕ → ℕ → List ℕ → Type 0
Formed n a ws = (k : ℕ) → k < length ws → WellFormed (n + k) a (slice_index ws k)

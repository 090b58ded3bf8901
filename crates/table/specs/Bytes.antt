-- The 32-bit words that bytes spell, the least significant byte first.
use Rattle.std.specs.Prelude.{ℕ, ◌+◌, ◌*◌, List, [], ◌∷◌}

abbrev pub word_of : ℕ → ℕ → ℕ → ℕ → ℕ
word_of a b c d = a + 256 * b + 65536 * c + 16777216 * d

-- Each four bytes are a word; fewer than four at the end are none.
abbrev pub whole_words : List ℕ → List ℕ
whole_words [] = []
whole_words (a ∷ []) = []
whole_words (a ∷ b ∷ []) = []
whole_words (a ∷ b ∷ c ∷ []) = []
whole_words (a ∷ b ∷ c ∷ d ∷ rest) = word_of a b c d ∷ whole_words rest

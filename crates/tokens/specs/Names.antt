-- A list of names in mark order, one space between two. Assumes nothing.
use Rattle.std.specs.Prelude.{◌≡◌, ℕ, ◌<◌, List, [], ◌∷◌, length, ◌==◌, ◌≢◌, slice_index_or}
use Rattle.std.specs.List.{slice_split}
use Rattle.tokens.specs.Bytes.{Name}

-- the parts of a text between its spaces: two spaces side by side, or one at an end, make an empty part
abbrev pub parts : List ℕ → List (List ℕ)
parts bs = slice_split (λ b. b == 32) bs

-- the names of a list: its parts, and none if it is empty
abbrev pub names_of : List ℕ → List (List ℕ)
names_of [] = []
names_of (b ∷ bs) = parts (b ∷ bs)

-- the list ns is proper for a marks: it has exactly a names, each a name and no two the same
pub record Proper (ns : List ℕ) (a : ℕ) : Type 0 where
  pub count : length (names_of ns) ≡ a
  pub each : (k : ℕ) → k < a → Name (slice_index_or (names_of ns) k [])
  pub distinct : (i j : ℕ) → i < j → j < a → slice_index_or (names_of ns) i [] ≢ slice_index_or (names_of ns) j []

-- m is the first place of the name s in the list ns
pub record Listed (ns s : List ℕ) (m : ℕ) : Type 0 where
  pub within : m < length (names_of ns)
  pub here : slice_index_or (names_of ns) m [] ≡ s
  pub first : (k : ℕ) → k < m → slice_index_or (names_of ns) k [] ≢ s

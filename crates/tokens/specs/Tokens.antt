-- Which token stands at the front of a text, and what is behind it. Assumes nothing.
use Rattle.std.specs.Prelude.{◌≡◌, ℕ, List, [], ◌∷◌, ◌++◌, replicate, codes, ◌≢◌}
use Rattle.lines.specs.declared.Unary.{Unary}
use Rattle.lines.specs.declared.Unary.TheVariants.{Not, Ex, Ax, Ef, Af, Eg, Ag}
use Rattle.tokens.specs.declared.Paths.{Paths}
use Rattle.tokens.specs.declared.Paths.TheVariants.{Exists, All}
use Rattle.tokens.specs.declared.Link.{Link}
use Rattle.tokens.specs.declared.Link.TheVariants.{Until, Release}
use Rattle.tokens.specs.Bytes.{Name, Ended}

pub data Tok : Type 0 where
  t_name : List ℕ → Tok
  t_prefix : Unary → Tok
  t_paths : Paths → Tok
  t_link : Link → Tok
  tTrue tFalse tAnd tOr tImplies tOpen tClose tLeft tRight tEnd tStray : Tok

-- the letter E or A
abbrev pub letter_of : Paths → ℕ
letter_of Exists = 69
letter_of All = 65

-- the bytes of a token
abbrev pub prefix_bytes : Unary → List ℕ
prefix_bytes Not = codes "!"
prefix_bytes Ex = codes "EX"
prefix_bytes Ax = codes "AX"
prefix_bytes Ef = codes "EF"
prefix_bytes Af = codes "AF"
prefix_bytes Eg = codes "EG"
prefix_bytes Ag = codes "AG"

abbrev pub link_bytes : Link → List ℕ
link_bytes Until = codes "U"
link_bytes Release = codes "R"

abbrev pub bytes_of : Tok → List ℕ
bytes_of (t_name s) = s
bytes_of (t_prefix o) = prefix_bytes o
bytes_of (t_paths q) = letter_of q ∷ []
bytes_of (t_link j) = link_bytes j
bytes_of tTrue = codes "T"
bytes_of tFalse = codes "F"
bytes_of tAnd = codes "&"
bytes_of tOr = codes "|"
bytes_of tImplies = codes "->"
bytes_of tOpen = codes "("
bytes_of tClose = codes ")"
bytes_of tLeft = codes "["
bytes_of tRight = codes "]"
bytes_of tEnd = []
bytes_of tStray = []

-- a text that does not go on with X, F or G
abbrev pub Alone : List ℕ → Type 0
Alone [] = Unit {0}
Alone (b ∷ bs) = (b ≢ 88) × (b ≢ 70) × (b ≢ 71)

-- what a token asks besides its bytes, where r is behind it: a name is proper and as long as it runs, E or A is not the
-- first letter of a two-letter keyword, and the end has nothing behind it
abbrev pub Whole : Tok → List ℕ → Type 0
Whole (t_name s) r = Name s × Ended r
Whole (t_paths q) r = Alone r
Whole tEnd r = r ≡ []
Whole tStray r = ⊥
Whole k r = Unit {0}

-- the token k stands at the front of the text bs, behind any number of spaces, and r is behind it
pub record Stands (bs : List ℕ) (k : Tok) (r : List ℕ) : Type 0 where
  pub spaces : ℕ
  pub spelled : bs ≡ replicate spaces 32 ++ (bytes_of k ++ r)
  pub whole : Whole k r

-- what reading a token answers: the token that stands there and what is behind it, or that none stands there
pub record Seen (bs : List ℕ) (k : Tok) (r : List ℕ) : Type 0 where
  pub stands : (k ≢ tStray) → Stands bs k r
  pub stray : k ≡ tStray → (j : Tok) (s : List ℕ) → Stands bs j s → ⊥

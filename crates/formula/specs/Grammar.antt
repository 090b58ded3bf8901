-- Trees of formulas, and which texts spell them. Assumes nothing.
use Rattle.std.specs.Prelude.{◌≡◌, ℕ, List}
use Rattle.lines.specs.declared.Unary.{Unary}
use Rattle.lines.specs.declared.Binary.{Binary}
use Rattle.lines.specs.declared.Binary.TheVariants.{And, Or, Implies, Eu, Au, Er, Ar}
use Rattle.tokens.specs.declared.Paths.{Paths}
use Rattle.tokens.specs.declared.Paths.TheVariants.{Exists, All}
use Rattle.tokens.specs.declared.Link.{Link}
use Rattle.tokens.specs.declared.Link.TheVariants.{Until, Release}
use Rattle.tokens.specs.Tokens.{Stands, t_name, t_prefix, t_paths, t_link, tTrue, tFalse, tAnd, tOr, tImplies, tOpen, tClose, tLeft, tRight, tEnd}
use Rattle.tokens.specs.Names.{Listed}

-- a formula: T, F, a mark by its number, or an operator over one or two formulas
pub data Tree : Type 0 where
  truth falsity : Tree
  mark : ℕ → Tree
  one : Unary → Tree → Tree
  two : Binary → Tree → Tree → Tree

-- the operator that E or A makes with U or R
abbrev pub path_of : Paths → Link → Binary
path_of Exists Until = Eu
path_of All Until = Au
path_of Exists Release = Er
path_of All Release = Ar

-- the rules of the grammar
pub data Level : Type 0 where
  unit con alt formula : Level

-- Reads ns l bs t r, with the list of names ns: the front of bs spells the tree t by the rule l, and r is behind it.
pub data Reads (ns : List ℕ) : Level → List ℕ → Tree → List ℕ → Type 0 where
  -- unit: T, F, a listed name, a prefix before a unit, E or A with two formulas in brackets, a formula in parentheses
  is_true : {bs r : List ℕ} → Stands bs tTrue r → Reads ns unit bs truth r
  is_false : {bs r : List ℕ} → Stands bs tFalse r → Reads ns unit bs falsity r
  is_name : {bs r s : List ℕ} {m : ℕ} → Stands bs (t_name s) r → Listed ns s m → Reads ns unit bs (mark m) r
  is_one : {bs k r : List ℕ} {t : Tree} {o : Unary} → Stands bs (t_prefix o) k → Reads ns unit k t r → Reads ns unit bs (one o t) r
  is_path : {bs i j k l m r : List ℕ} {a b : Tree} {q : Paths} {u : Link} → Stands bs (t_paths q) i → Stands i tLeft j → Reads ns formula j a k → Stands k (t_link u) l → Reads ns formula l b m → Stands m tRight r → Reads ns unit bs (two (path_of q u) a b) r
  is_group : {bs j k r : List ℕ} {t : Tree} → Stands bs tOpen j → Reads ns formula j t k → Stands k tClose r → Reads ns unit bs t r
  -- con: units joined by &, grouped leftward
  con_one : {bs r : List ℕ} {t : Tree} → Reads ns unit bs t r → Reads ns con bs t r
  con_more : {bs j k r : List ℕ} {a b : Tree} → Reads ns con bs a j → Stands j tAnd k → Reads ns unit k b r → Reads ns con bs (two And a b) r
  -- alt: cons joined by |, grouped leftward
  alt_one : {bs r : List ℕ} {t : Tree} → Reads ns con bs t r → Reads ns alt bs t r
  alt_more : {bs j k r : List ℕ} {a b : Tree} → Reads ns alt bs a j → Stands j tOr k → Reads ns con k b r → Reads ns alt bs (two Or a b) r
  -- formula: an alt, or an alt, -> and a formula
  is_alt : {bs r : List ℕ} {t : Tree} → Reads ns alt bs t r → Reads ns formula bs t r
  implies : {bs j k r : List ℕ} {a b : Tree} → Reads ns alt bs a j → Stands j tImplies k → Reads ns formula k b r → Reads ns formula bs (two Implies a b) r

-- the whole text bs spells the formula t: only spaces are behind it
pub record Spells (ns bs : List ℕ) (t : Tree) : Type 0 where
  pub to : List ℕ
  pub behind : List ℕ
  pub reads : Reads ns formula bs t to
  pub ends : Stands to tEnd behind

-- a text spells at most one tree
abbrev pub OneTree : Type 0
OneTree = (ns bs : List ℕ) (t u : Tree) → Spells ns bs t → Spells ns bs u → t ≡ u

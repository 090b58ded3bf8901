-- The formulas that lines stand for.
use Rattle.std.specs.Prelude.{◌≡◌, ℕ, ◌+◌, ◌<◌, ◌≤◌, ◌⊎◌, List, [], ◌∷◌, ◌++◌, length, slice_index, slice_index_or}
use Rattle.lines.specs.declared.Line.{Line}
use Rattle.lines.specs.declared.Line.TheVariants.{False, True, Mark, One, Two}
use Rattle.lines.specs.declared.Unary.{Unary}
use Rattle.lines.specs.declared.Unary.TheVariants.{Not, Ex, Ax, Ef, Af, Eg, Ag}
use Rattle.lines.specs.declared.Binary.{Binary}
use Rattle.lines.specs.declared.Binary.TheVariants.{And, Or, Implies, Eu, Au, Er, Ar}
use Rattle.lines.specs.Word.{word_of, FitsAt}
use Rattle.formula.specs.Grammar.{Tree, truth, falsity, mark, one, two}
use Rattle.formula.specs.Words.{size, line_of}
use Rattle.ctl.specs.Operations.{Ops}
use Rattle.ctl.specs.Formulas.{Plan, Formula, F, T, mark as marked, not, EX, AX, and, or, EU, AU, implies, EF, AF, EG, AG, ER, AR}
use Rattle.ctl.specs.Values.{Takes}

-- A line's formula, where `of` has the formula of each earlier line.
abbrev pub one_formula : Unary → Formula → Formula
one_formula Not f = not f
one_formula Ex f = EX f
one_formula Ax f = AX f
one_formula Ef f = EF f
one_formula Af f = AF f
one_formula Eg f = EG f
one_formula Ag f = AG f

abbrev pub two_formula : Binary → Formula → Formula → Formula
two_formula And f g = and f g
two_formula Or f g = or f g
two_formula Implies f g = implies f g
two_formula Eu f g = EU f g
two_formula Au f g = AU f g
two_formula Er f g = ER f g
two_formula Ar f g = AR f g

abbrev pub line_formula : (ℕ → Formula) → Line → Formula
line_formula of False = F
line_formula of True = T
line_formula of (Mark m) = marked m
line_formula of (One o l) = one_formula o (of l)
line_formula of (Two o l r) = two_formula o (of l) (of r)

-- The formulas of lines, after those of earlier ones, and that of line k.
abbrev pub formulas : List Formula → List Line → List Formula
formulas fs [] = fs
formulas fs (l ∷ ls) = formulas (fs ++ (line_formula (λ i. slice_index_or fs i F) l ∷ [])) ls

abbrev pub formula : List Line → ℕ → Formula
formula ls k = slice_index_or (formulas [] ls) k F

-- The until whose rounds a line counts: its own, or the one inside a dual; a line with none has F, which takes no rounds.
abbrev pub one_until : Unary → Formula → Formula
one_until Not f = F
one_until Ex f = F
one_until Ax f = F
one_until Ef f = EF f
one_until Af f = AF f
one_until Eg f = AF (not f)
one_until Ag f = EF (not f)

abbrev pub two_until : Binary → Formula → Formula → Formula
two_until And f g = F
two_until Or f g = F
two_until Implies f g = F
two_until Eu f g = EU f g
two_until Au f g = AU f g
two_until Er f g = AU (not f) (not g)
two_until Ar f g = EU (not f) (not g)

abbrev pub line_until : (ℕ → Formula) → Line → Formula
line_until of False = F
line_until of True = F
line_until of (Mark m) = F
line_until of (One o l) = one_until o (of l)
line_until of (Two o l r) = two_until o (of l) (of r)

abbrev pub until_in : List Line → ℕ → Formula
until_in ls k = line_until (formula ls) (slice_index_or ls k False)

-- r is the greatest count of rounds of any line, or 0.
pub record GreatestCount {V : Type 0} (o : Ops V) (p : Plan V) (ls : List Line) (r : ℕ) : Type 0 where
  pub bounds : (k c : ℕ) → k < length ls → Takes o p (until_in ls k) c → c ≤ r
  pub reached : (r ≡ 0) ⊎ ((k : ℕ) × (k < length ls) × Takes o p (until_in ls k) r)

-- Each line names only marks below a and earlier lines.
abbrev pub Fitting : ℕ → List Line → Type 0
Fitting a ls = (k : ℕ) → k < length ls → FitsAt k a (slice_index_or ls k False)

-- The first words are those of fitting lines.
pub record Says (a count : ℕ) (ws : List ℕ) (ls : List Line) : Type 0 where
  pub all : length ls ≡ count
  pub words : (k : ℕ) → k < count → word_of (slice_index_or ls k False) ≡ slice_index ws k
  pub fit : Fitting a ls

-- The lines of a tree in postfix order, where n lines stand before them.
abbrev pub tree_lines : ℕ → Tree → List Line
tree_lines n truth = True ∷ []
tree_lines n falsity = False ∷ []
tree_lines n (mark m) = Mark m ∷ []
tree_lines n (one o t) = tree_lines n t ++ (One o (line_of n t) ∷ [])
tree_lines n (two o a b) = tree_lines n a ++ (tree_lines (n + size a) b ++ (Two o (line_of n a) (line_of (n + size a) b) ∷ []))

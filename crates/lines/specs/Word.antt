-- Which word a line has, and which words are well formed. Assumes nothing.
use Rattle.std.specs.Prelude.{◌≡◌, ℕ, ◌+◌, ◌*◌, ◌<◌, Ok, Err, Result, ◌≢◌}
use Rattle.lines.specs.declared.Unary.{Unary}
use Rattle.lines.specs.declared.Unary.TheVariants.{Not, Ex, Ax, Ef, Af, Eg, Ag}
use Rattle.lines.specs.declared.Binary.{Binary}
use Rattle.lines.specs.declared.Binary.TheVariants.{And, Or, Implies, Eu, Au, Er, Ar}
use Rattle.lines.specs.declared.Line.{Line}
use Rattle.lines.specs.declared.Line.TheVariants.{False, True, Mark, One, Two}
use Rattle.lines.specs.declared.Refusal.{Refusal}
use Rattle.lines.specs.declared.Refusal.TheVariants as refusal

-- the numbers of the operators
abbrev pub unary_number : Unary → ℕ
unary_number Not = 3
unary_number Ex = 7
unary_number Ax = 8
unary_number Ef = 9
unary_number Af = 10
unary_number Eg = 11
unary_number Ag = 12

abbrev pub binary_number : Binary → ℕ
binary_number And = 4
binary_number Or = 5
binary_number Implies = 6
binary_number Eu = 13
binary_number Au = 14
binary_number Er = 15
binary_number Ar = 16

-- what turning a number into an operator gives: the operator with that number, or a refusal where none has it
abbrev pub UnaryNumbered : ℕ → Result Unary Refusal → Type 0
UnaryNumbered n (Ok o) = unary_number o ≡ n
UnaryNumbered n (Err e) = (e ≡ refusal.Line) × ((o : Unary) → unary_number o ≢ n)

abbrev pub BinaryNumbered : ℕ → Result Binary Refusal → Type 0
BinaryNumbered n (Ok o) = binary_number o ≡ n
BinaryNumbered n (Err e) = (e ≡ refusal.Line) × ((o : Binary) → binary_number o ≢ n)

-- the fields of a line: its operator's number, left and right; what an operator does not use is zero
abbrev pub operator_of : Line → ℕ
operator_of False = 0
operator_of True = 1
operator_of (Mark m) = 2
operator_of (One o l) = unary_number o
operator_of (Two o l r) = binary_number o

abbrev pub left_of : Line → ℕ
left_of False = 0
left_of True = 0
left_of (Mark m) = 0
left_of (One o l) = l
left_of (Two o l r) = l

abbrev pub right_of : Line → ℕ
right_of False = 0
right_of True = 0
right_of (Mark m) = m
right_of (One o l) = 0
right_of (Two o l r) = r

pub record HasFields (l : Line) (operator left right : ℕ) : Type 0 where
  pub operator_is : operator_of l ≡ operator
  pub left_is : left_of l ≡ left
  pub right_is : right_of l ≡ right

-- what finding the line with three fields gives: that line, or a refusal where there is none
abbrev pub Fielded : ℕ → ℕ → ℕ → Result Line Refusal → Type 0
Fielded o l r (Ok x) = HasFields x o l r
Fielded o l r (Err e) = (e ≡ refusal.Line) × ((x : Line) → HasFields x o l r → ⊥)

-- the word of a line: 4 in bits 31-28, the operator in 27-20, left in 15-8, right in 7-0
abbrev pub word_of : Line → ℕ
word_of l = 0x40000000 + 0x100000 * operator_of l + 0x100 * left_of l + right_of l

-- as line i of a sheet with a marks, a line names only marks and earlier lines
abbrev pub FitsAt : ℕ → ℕ → Line → Type 0
FitsAt i a False = Unit {0}
FitsAt i a True = Unit {0}
FitsAt i a (Mark m) = m < a
FitsAt i a (One o l) = l < i
FitsAt i a (Two o l r) = (l < i) × (r < i)

-- a word is well formed as line i of a sheet with a marks: it is the word of a line that fits there
abbrev pub WellFormed : ℕ → ℕ → ℕ → Type 0
WellFormed i a w = (l : Line) × (word_of l ≡ w) × FitsAt i a l

-- what reading the word w answers: a line that has this word and fits, or a refusal, exactly when w is not well formed
abbrev pub ReadsAs : ℕ → ℕ → ℕ → Result Line Refusal → Type 0
ReadsAs w i a (Ok l) = (word_of l ≡ w) × FitsAt i a l
ReadsAs w i a (Err e) = (e ≡ refusal.Line) × (WellFormed i a w → ⊥)

-- reading undoes writing: from the word of any line that fits, that very line is read
abbrev pub Undoes : ℕ → ℕ → ℕ → Result Line Refusal → Type 0
Undoes w i a r = (l : Line) → FitsAt i a l → word_of l ≡ w → r ≡ Ok l

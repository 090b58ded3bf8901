-- What a scale answers: the meaning of its interface, over its kind of value.
use Rattle.std.specs.Prelude.{◌≡◌, ℕ, Bool, true, false, cond, ◌&&◌, Some, None, Option, nat_le, nat_lt}

-- `V` has the patterns; those that are `valid` are the scale's values.
-- The operations and the numbers are stated for values: of other patterns they say nothing.
pub record Model (V : Type 0) : Type 0 where
  pub valid : V → Bool
  -- the order: u is at or below v
  pub leq : V → V → Bool
  pub meet : V → V → V
  pub join : V → V → V
  pub lowest : V
  pub highest : V
  -- how many values there are, or `too_many`
  pub size : ℕ
  -- how many cuts there are: the join-irreducible values, from 0 on
  pub cuts : ℕ
  pub cut : ℕ → V
  -- the greatest value that the cut is not at or below
  pub ceiling : ℕ → V
  pub value : ℕ → V
  pub number : V → ℕ

-- A scale of more values than this has no numbers and no cuts.
abbrev pub most_values : ℕ
most_values = 4096

-- The size that such a scale answers.
abbrev pub too_many : ℕ
too_many = 4097

abbrev pub Is : {V : Type 0} → Model V → V → Type 0
Is m v = m.valid v ≡ true

abbrev pub Le : {V : Type 0} → Model V → V → V → Type 0
Le m u v = m.leq u v ≡ true

-- A pattern that is no value is read as lowest.
abbrev pub read : {V : Type 0} → Model V → V → V
read m v = cond (m.valid v) v m.lowest

-- v where the test passes, else none
abbrev pub only_if : {V : Type 0} → Bool → V → Option V
only_if true v = Some v
only_if false v = None

-- how many numbers name a value: none where there are too many values
abbrev pub named : {V : Type 0} → Model V → ℕ
named m = cond (nat_le m.size most_values) m.size 0

abbrev pub cut_at : {V : Type 0} → Model V → ℕ → Option V
cut_at m j = only_if (nat_lt j m.cuts) (m.cut j)

abbrev pub ceiling_at : {V : Type 0} → Model V → ℕ → Option V
ceiling_at m j = only_if (nat_lt j m.cuts) (m.ceiling j)

-- the value with a number, if one has it
abbrev pub value_at : {V : Type 0} → Model V → ℕ → Option V
value_at m n = only_if (nat_lt n (named m)) (m.value n)

-- the number of a pattern, if it is a value and has one
abbrev pub number_of : {V : Type 0} → Model V → V → Option ℕ
number_of m v = only_if (m.valid v && nat_le m.size most_values) (m.number v)

-- What a type of logics says of each logic of the type: its model, the opposite of each value, and the partner of each cut.
abbrev pub Meanings : Type 0 → Type 0 → Type 0
Meanings S V = record { model : S → Model V; opposes : S → V → V; partners : S → ℕ → ℕ }

-- The operations of a logic on patterns: each pattern is read first, one that is no value as lowest.
use Rattle.std.specs.Prelude.{◌≡◌, ℕ, ◌≤◌, Bool, true, cond}
use Rattle.scale.specs.Model.{Model, Meanings, read, most_values}

-- The values are the patterns of `V` that are `valid`; the cuts have the numbers below `cuts`.
pub record Ops (V : Type 0) : Type 0 where
  pub valid : V → Bool
  pub leq : V → V → Bool
  pub meet : V → V → V
  pub join : V → V → V
  pub lowest : V
  pub highest : V
  pub opposite : V → V
  pub cuts : ℕ
  pub cut : ℕ → V
  pub partner : ℕ → ℕ

-- Those of a scale with an opposite for each value and a partner for each cut.
abbrev pub ops_of : {V : Type 0} → Model V → (V → V) → (ℕ → ℕ) → Ops V
ops_of m opposite partner = record {
  valid = m.valid;
  leq = λ u v. m.leq (read m u) (read m v);
  meet = λ u v. m.meet (read m u) (read m v);
  join = λ u v. m.join (read m u) (read m v);
  lowest = m.lowest;
  highest = m.highest;
  opposite = λ v. opposite (read m v);
  cuts = m.cuts;
  cut = m.cut;
  partner = partner;
}

-- Those of the logic s of a type.
abbrev pub ops_at : {S V : Type 0} → Meanings S V → S → Ops V
ops_at l s = ops_of (l.model s) (l.opposes s) (l.partners s)

-- A scale of at most 4,096 values: only these have cuts.
abbrev pub Small : {V : Type 0} → Model V → Type 0
Small m = m.size ≤ most_values

-- The pattern is a value.
abbrev pub Valid : {V : Type 0} → Ops V → V → Type 0
Valid o v = o.valid v ≡ true

-- The pattern itself, or lowest where it is no value.
abbrev pub as_read : {V : Type 0} → Ops V → V → V
as_read o v = cond (o.valid v) v o.lowest

-- u is at or below v.
abbrev pub Below : {V : Type 0} → Ops V → V → V → Type 0
Below o u v = o.leq u v ≡ true

-- v carries cut j: the cut is at or below it.
abbrev pub Carries : {V : Type 0} → Ops V → ℕ → V → Type 0
Carries o j v = Below o (o.cut j) v

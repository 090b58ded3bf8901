-- The pair of two scales, part by part.
use Rattle.std.specs.Prelude.{ℕ, ◌+◌, ◌-◌, ◌*◌, ◌/◌, ◌%◌, Bool, cond, ◌&&◌, nat_le, nat_lt}
use Rattle.scale.specs.Model.{Model, most_values, too_many}
use Rattle.compounds.specs.declared.pair.PairValue.{PairValue}

abbrev pub pair : {A B : Type 0} → A → B → PairValue A B
pair a b = record { first = a; second = b }

-- few: the pair has at most 4,096 values, so it has numbers and cuts
abbrev pub pair_at : {A B : Type 0} → Bool → Model A → Model B → Model (PairValue A B)
pair_at few a b = record {
  valid = λ v. a.valid v.first && b.valid v.second;
  leq = λ u v. a.leq u.first v.first && b.leq u.second v.second;
  meet = λ u v. pair (a.meet u.first v.first) (b.meet u.second v.second);
  join = λ u v. pair (a.join u.first v.first) (b.join u.second v.second);
  lowest = pair a.lowest b.lowest;
  highest = pair a.highest b.highest;
  size = cond few (a.size * b.size) too_many;
  cuts = cond few (a.cuts + b.cuts) 0;
  cut = λ j. cond (nat_lt j a.cuts) (pair (a.cut j) b.lowest) (pair a.lowest (b.cut (j - a.cuts)));
  ceiling = λ j. cond (nat_lt j a.cuts) (pair (a.ceiling j) b.highest) (pair a.highest (b.ceiling (j - a.cuts)));
  value = λ n. pair (a.value (n / b.size)) (b.value (n % b.size));
  number = λ v. a.number v.first * b.size + b.number v.second;
}

abbrev pub pair_model : {A B : Type 0} → Model A → Model B → Model (PairValue A B)
pair_model a b = pair_at (nat_le (a.size * b.size) most_values) a b

abbrev pub pair_opposite : {A B : Type 0} → (A → A) → (B → B) → PairValue A B → PairValue A B
pair_opposite f g v = pair (f v.first) (g v.second)

-- h is the count of the first part's cuts
abbrev pub pair_partner : ℕ → (ℕ → ℕ) → (ℕ → ℕ) → ℕ → ℕ
pair_partner h f g j = cond (nat_lt j h) (f j) (h + g (j - h))

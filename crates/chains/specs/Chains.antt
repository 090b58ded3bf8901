-- The chain of n values, numbered upward from 0.
use Rattle.std.specs.Prelude.{ℕ, ◌+◌, ◌-◌, min, max, nat_le, nat_lt}
use Rattle.scale.specs.Model.{Model}

abbrev pub chain : ℕ → Model ℕ
chain n = record {
  valid = λ v. nat_lt v n;
  leq = λ u v. nat_le u v;
  meet = λ u v. min u v;
  join = λ u v. max u v;
  lowest = 0;
  highest = n - 1;
  size = n;
  cuts = n - 1;
  cut = λ j. j + 1;
  ceiling = λ j. j;
  value = λ k. k;
  number = λ v. v;
}

abbrev pub chain_opposite : ℕ → ℕ → ℕ
chain_opposite n v = n - 1 - v

abbrev pub chain_partner : ℕ → ℕ → ℕ
chain_partner n j = n - 2 - j

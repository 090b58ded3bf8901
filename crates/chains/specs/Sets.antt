-- The sets of k members, as k-bit numbers: member j stands for bit j.
use Rattle.std.specs.Prelude.{ℕ, ◌-◌, ◌^◌, ◌==◌, bit_and, nat_lt}
use Rattle.std.specs.Int.Bits.{bit_or}
use Rattle.scale.specs.Model.{Model}

abbrev pub sets : ℕ → Model ℕ
sets k = record {
  valid = λ v. nat_lt v (2 ^ k);
  leq = λ u v. (bit_and u v == u);
  meet = bit_and;
  join = bit_or;
  lowest = 0;
  highest = 2 ^ k - 1;
  size = 2 ^ k;
  cuts = k;
  cut = λ j. 2 ^ j;
  ceiling = λ j. 2 ^ k - 1 - 2 ^ j;
  value = λ n. n;
  number = λ v. v;
}

-- the complement
abbrev pub sets_opposite : ℕ → ℕ → ℕ
sets_opposite k v = 2 ^ k - 1 - v

-- each cut is its own partner
abbrev pub sets_partner : ℕ → ℕ
sets_partner j = j

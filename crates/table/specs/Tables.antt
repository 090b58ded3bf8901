-- What a table answers: a function of its count, its rows and its opposites alone.
use Rattle.std.specs.Prelude.{ℕ, Bool, List, nat_lt}
use Rattle.scale.specs.Model.{Model}
use Rattle.orders.specs.Orders.{under, meet_of, join_of, lowest_of, highest_of, cut_count_of, cut_of, ceiling_of, partner_of, listed}

-- The scale that a relation on the numbers below n makes. A value is its own number.
abbrev pub order_model : ℕ → (ℕ → ℕ → Bool) → Model ℕ
order_model n le = record {
  valid = λ v. nat_lt v n;
  leq = le;
  meet = meet_of n le;
  join = join_of n le;
  lowest = lowest_of n le;
  highest = highest_of n le;
  size = n;
  cuts = cut_count_of n le;
  cut = cut_of n le;
  ceiling = λ j. ceiling_of n le (cut_of n le j);
  value = λ k. k;
  number = λ v. v;
}

abbrev pub table_model : ℕ → List ℕ → Model ℕ
table_model n rows = order_model n (under rows)

abbrev pub table_partner : ℕ → List ℕ → List ℕ → ℕ → ℕ
table_partner n rows opposites = partner_of n (under rows) (listed opposites)

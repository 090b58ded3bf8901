-- A compound's two parts: where its cuts stand, and its size.
use Rattle.std.specs.Prelude.{ℕ, ◌-◌, ◌*◌, cond, nat_le, nat_lt}
use Rattle.scale.specs.Model.{most_values, too_many}
use Rattle.compounds.specs.declared.halves.Half.{Half}
use Rattle.compounds.specs.declared.halves.Half.TheVariants.{First, Second}

-- The first part's cuts, so many, come first.
abbrev pub half_of : ℕ → ℕ → Half
half_of first j = cond (nat_lt j first) (First j) (Second (j - first))

abbrev pub product_size : ℕ → ℕ → ℕ
product_size m n = cond (nat_le (m * n) most_values) (m * n) too_many

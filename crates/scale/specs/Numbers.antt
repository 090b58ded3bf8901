-- The operations by numbers, as tables, plan files and reports name values: none where a number names no value.
use Rattle.std.specs.Prelude.{ℕ, Bool, ◌&&◌, Option, nat_lt}
use Rattle.scale.specs.Model.{Model, named, only_if}

-- The values with numbers i and j.
abbrev pub numbered_values : {V : Type 0} → Model V → ℕ → ℕ → Option (V × V)
numbered_values m i j = only_if (nat_lt i (named m) && nat_lt j (named m)) (m.value i, m.value j)

abbrev pub meet_number : {V : Type 0} → Model V → ℕ → ℕ → Option ℕ
meet_number m i j = only_if (nat_lt i (named m) && nat_lt j (named m)) (m.number (m.meet (m.value i) (m.value j)))

abbrev pub join_number : {V : Type 0} → Model V → ℕ → ℕ → Option ℕ
join_number m i j = only_if (nat_lt i (named m) && nat_lt j (named m)) (m.number (m.join (m.value i) (m.value j)))

abbrev pub leq_number : {V : Type 0} → Model V → ℕ → ℕ → Option Bool
leq_number m i j = only_if (nat_lt i (named m) && nat_lt j (named m)) (m.leq (m.value i) (m.value j))

abbrev pub opposite_number : {V : Type 0} → Model V → (V → V) → ℕ → Option ℕ
opposite_number m opposite i = only_if (nat_lt i (named m)) (m.number (opposite (m.value i)))

abbrev pub cut_number : {V : Type 0} → Model V → ℕ → Option ℕ
cut_number m j = only_if (nat_lt j m.cuts) (m.number (m.cut j))

abbrev pub ceiling_number : {V : Type 0} → Model V → ℕ → Option ℕ
ceiling_number m j = only_if (nat_lt j m.cuts) (m.number (m.ceiling j))

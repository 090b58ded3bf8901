-- The twist over a scale: a value is (for, against), here `pro` and `con`, and rises as `pro` rises and `con` falls.
use Rattle.std.specs.Prelude.{ℕ, ◌+◌, ◌-◌, ◌*◌, ◌/◌, ◌%◌, Bool, cond, ◌&&◌, nat_le, nat_lt}
use Rattle.scale.specs.Model.{Model, most_values, too_many}
use Rattle.compounds.specs.declared.twist.TwistValue.{TwistValue}

abbrev pub twist : {V : Type 0} → V → V → TwistValue V
twist p c = record { pro = p; con = c }

-- few: the twist has at most 4,096 values, so it has numbers and cuts
abbrev pub twist_at : {V : Type 0} → Bool → Model V → Model (TwistValue V)
twist_at few m = record {
  valid = λ v. m.valid v.pro && m.valid v.con;
  leq = λ u v. m.leq u.pro v.pro && m.leq v.con u.con;
  meet = λ u v. twist (m.meet u.pro v.pro) (m.join u.con v.con);
  join = λ u v. twist (m.join u.pro v.pro) (m.meet u.con v.con);
  lowest = twist m.lowest m.highest;
  highest = twist m.highest m.lowest;
  size = cond few (m.size * m.size) too_many;
  cuts = cond few (m.cuts + m.cuts) 0;
  cut = λ j. cond (nat_lt j m.cuts) (twist (m.cut j) m.highest) (twist m.lowest (m.ceiling (j - m.cuts)));
  ceiling = λ j. cond (nat_lt j m.cuts) (twist (m.ceiling j) m.lowest) (twist m.highest (m.cut (j - m.cuts)));
  value = λ n. twist (m.value (n / m.size)) (m.value (m.size - 1 - n % m.size));
  number = λ v. m.number v.pro * m.size + (m.size - 1 - m.number v.con);
}

abbrev pub twist_model : {V : Type 0} → Model V → Model (TwistValue V)
twist_model m = twist_at (nat_le (m.size * m.size) most_values) m

abbrev pub twist_opposite : {V : Type 0} → TwistValue V → TwistValue V
twist_opposite v = twist v.con v.pro

-- h is the count of the scale's cuts
abbrev pub twist_partner : ℕ → ℕ → ℕ
twist_partner h j = cond (nat_lt j h) (h + j) (j - h)

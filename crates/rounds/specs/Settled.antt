-- A step that is settled.
use Rattle.std.specs.Prelude.{◌≡◌, ℕ, ◌+◌, ◌≤◌, Bool, ◌&&◌, List, nat_le, slice_index_or}
use Rattle.scale.specs.Model.{Model, most_values}
use Rattle.ctl.specs.Operations.{Ops}
use Rattle.ctl.specs.Formulas.{Formula}
use Rattle.ctl.specs.Values.{Value}
use Rattle.steps.specs.declared.Step.{Step}
use Rattle.steps.specs.Stretch.{row, HoldsValues, plan_of, Off}
use Rattle.steps.specs.Steps.{RowOf, CountOf, formula_of, Valued, StepTakes, laid}

-- Whether a step can be settled: the logic has cuts, and all is laid in order in a stretch of `len` values.
abbrev pub settleable : {V : Type 0} → Model V → ℕ → ℕ → Step → ℕ → ℕ → ℕ → Bool
settleable m n a step to work len = nat_le m.size most_values && laid n a step to work len

-- From the stretch s, a step leaves t, with its row at `to`, and counts k rounds. The two work rows are left free.
pub record Settled {V : Type 0} (o : Ops V) (n a : ℕ) (step : Step) (to work : ℕ) (s : List V) (k : ℕ) (t : List V) : Type 0 where
  -- the row and the count, whatever s holds
  pub row_is : RowOf o (plan_of o n a s) s step (row o t to)
  pub values : HoldsValues o n t to
  pub count_is : CountOf o (plan_of o n a s) s step k
  pub few : k ≤ n
  -- where the rows that the step names are the values of formulas, its row is that of its formula, and the count that of its until
  pub value_is : (of : ℕ → Formula) → Valued o (plan_of o n a s) s of step → Value o (plan_of o n a s) (formula_of of step) (row o t to)
  pub takes : (of : ℕ → Formula) → Valued o (plan_of o n a s) s of step → StepTakes o (plan_of o n a s) of step k
  -- all but its row and the work rows is as it was
  pub spared : (i : ℕ) → Off to n i → Off work (n + n) i → slice_index_or t i o.lowest ≡ slice_index_or s i o.lowest

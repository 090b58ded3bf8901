-- Rows of values, one entry for each stage.
use Rattle.std.specs.Prelude.{◌≡◌, ℕ, ◌<◌, ◌≤◌, List, length, slice_index_or}
use Rattle.ctl.specs.declared.Paths.{Paths}
use Rattle.ctl.specs.declared.Paths.TheVariants.{One, All}
use Rattle.ctl.specs.Operations.{Ops, Valid}
use Rattle.ctl.specs.Values.{Row, Same, Least, Rounds}
use Rattle.ctl.specs.Computed.{at}
use Rattle.steps.specs.declared.Side.TheVariants.{At, Not}
use Rattle.steps.specs.declared.Until.{Until}
use Rattle.steps.specs.declared.Step.{Step}
use Rattle.steps.specs.declared.Step.TheVariants.{Mark, Copied, And, Or, Ex, Ax, Until as Untils, Dual}
use Rattle.steps.specs.Stretch.{plan_of}
use Rattle.steps.specs.Steps.{side_of, round_of, RowOf, CountOf}

-- Each entry of a list is a value.
abbrev pub AllValues : {V : Type 0} → Ops V → List V → Type 0
AllValues o xs = (i : ℕ) → i < length xs → Valid o (at o xs i)

-- A row of n values.
pub record IsRow {V : Type 0} (o : Ops V) (n : ℕ) (xs : List V) : Type 0 where
  pub size : length xs ≡ n
  pub values : AllValues o xs

-- Along all paths the opposites of a row; along one path anything.
abbrev pub Turned : {V : Type 0} → Ops V → ℕ → Paths → List V → List V → Type 0
Turned o n One row turned = Unit {0}
Turned o n All row turned = IsRow o n turned × Same n (at o turned) (λ t. o.opposite (at o row t))

-- A row is the least solution of an until over s, after k rounds that changed something.
pub record Rested {V : Type 0} (o : Ops V) (n a : ℕ) (s : List V) (u : Until) (k : ℕ) (xs : List V) : Type 0 where
  pub least : Least o n (round_of o (plan_of o n a s) s u) (at o xs)
  pub count : Rounds o n (round_of o (plan_of o n a s) s u) k
  pub few : k ≤ n

-- All but the last write of a step over s: its count, and the row that its own is written from, if it has one.
abbrev pub Prepared : {V : Type 0} → Ops V → ℕ → ℕ → List V → Step → ℕ → List V → Type 0
Prepared o n a s (Mark m) k xs = k ≡ 0
Prepared o n a s (Copied f) k xs = k ≡ 0
Prepared o n a s (And f g) k xs = k ≡ 0
Prepared o n a s (Or f g) k xs = k ≡ 0
Prepared o n a s (Ex place) k xs = (k ≡ 0) × IsRow o n xs × Same n (at o xs) (side_of o s (At place))
Prepared o n a s (Ax place) k xs = (k ≡ 0) × IsRow o n xs × Same n (at o xs) (side_of o s (Not place))
Prepared o n a s (Untils u) k xs = Rested o n a s u k xs
Prepared o n a s (Dual u) k xs = Rested o n a s u k xs

-- x is the row of a step over s, after k rounds of an until that changed something.
pub record RowSettled {V : Type 0} (o : Ops V) (n a : ℕ) (s : List V) (step : Step) (k : ℕ) (x : Row V) : Type 0 where
  pub row_is : RowOf o (plan_of o n a s) s step x
  pub count_is : CountOf o (plan_of o n a s) s step k
  pub few : k ≤ n

-- t is as s from place m on.
abbrev pub KeptFrom : {V : Type 0} → Ops V → ℕ → List V → List V → Type 0
KeptFrom o m s t = (k : ℕ) → m ≤ k → slice_index_or t k o.lowest ≡ slice_index_or s k o.lowest

-- What holds of formulas over a logic that has cuts.
use Rattle.std.specs.Prelude.{◌≡◌, ℕ, ◌<◌, ◌≤◌, ◌↔◌}
use Rattle.ctl.specs.declared.Paths.{Paths}
use Rattle.ctl.specs.Operations.{Ops, Carries}
use Rattle.ctl.specs.Formulas.{Plan, Formula}
use Rattle.ctl.specs.Values.{Row, Same, Least, Value, after, Rounds, Takes, round}
use Rattle.ctl.specs.Readings.{Holds}
use Rattle.ctl.specs.Computed.{at, value, counted}

-- A cut is at or below the value of a formula at a stage exactly when the formula's reading at that cut holds there.
abbrev pub ReadingAgrees : {V : Type 0} → Ops V → Type 0
ReadingAgrees {V} o =
    (p : Plan V) (φ : Formula) (z : Row V) → Value o p φ z →
    (j : ℕ) → j < o.cuts → (s : ℕ) → s < p.stages → Carries o j (z s) ↔ Holds o p φ j s

-- Every formula has a value,
abbrev pub ValueExists : {V : Type 0} → Ops V → Type 0
ValueExists {V} o = (p : Plan V) (φ : Formula) → (z : Row V) × Value o p φ z

-- and only one.
abbrev pub ValueOnce : {V : Type 0} → Ops V → Type 0
ValueOnce {V} o = (p : Plan V) (φ : Formula) (z w : Row V) → Value o p φ z → Value o p φ w → Same p.stages z w

-- Rounds from lowest settle: they come to rest, at most n of them change something,
-- how many is determined, and where they rest is the least solution, of which there is one.
pub record Settles {V : Type 0} (o : Ops V) (n : ℕ) (step : Row V → Row V) : Type 0 where
  pub rest : (k : ℕ) × Rounds o n step k
  pub few : (k : ℕ) → Rounds o n step k → k ≤ n
  pub count : (k i : ℕ) → Rounds o n step k → Rounds o n step i → k ≡ i
  pub least : (k : ℕ) → Rounds o n step k → Least o n step (after o step k)
  pub once : (x y : Row V) → Least o n step x → Least o n step y → Same n x y

-- Those of every until do, whatever rows f and g it is made of.
abbrev pub UntilsSettle : {V : Type 0} → Ops V → Type 0
UntilsSettle {V} o = (p : Plan V) (w : Paths) (f g : Row V) → Settles o p.stages (round o p w f g)

-- What is computed over lists is the value of the formula, and what is counted there are the rounds that change something.
abbrev pub ValueComputed : {V : Type 0} → Ops V → Type 0
ValueComputed {V} o = (p : Plan V) (φ : Formula) → Value o p φ (at o (value o p φ)) × Takes o p φ (counted o p φ)

-- All of these.
pub record Meaning {V : Type 0} (o : Ops V) : Type 0 where
  pub agrees : ReadingAgrees o
  pub exists : ValueExists o
  pub once : ValueOnce o
  pub settle : UntilsSettle o
  pub computed : ValueComputed o

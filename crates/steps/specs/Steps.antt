-- The step of a line: what its row is made of, and its formula.
use Rattle.std.specs.Prelude.{◌≡◌, ℕ, ◌+◌, ◌*◌, Bool, true, ◌&&◌, List, nat_le, nat_lt}
use Rattle.ctl.specs.Operations.{Ops, as_read}
use Rattle.ctl.specs.Formulas.{Plan, Formula, F, T, mark, not, EX, AX, and, or, until}
use Rattle.ctl.specs.Values.{Row, Same, Least, Value, Rounds, Takes, ex, ax, round}
use Rattle.steps.specs.declared.Side.{Side}
use Rattle.steps.specs.declared.Side.TheVariants.{Bottom, Top, At, Not}
use Rattle.steps.specs.declared.Until.{Until}
use Rattle.steps.specs.declared.Step.{Step}
use Rattle.steps.specs.declared.Step.TheVariants.{Mark, Copied, And, Or, Ex, Ax, Until as Untils, Dual}
use Rattle.steps.specs.Stretch.{row}

-- The row of a side: lowest, highest, the row at a place as it is read, or the opposite of that.
abbrev pub side_of : {V : Type 0} → Ops V → List V → Side → Row V
side_of o s Bottom i = o.lowest
side_of o s Top i = o.highest
side_of o s (At place) i = as_read o (row o s place i)
side_of o s (Not place) i = o.opposite (row o s place i)

-- One round of an until between two sides.
abbrev pub round_of : {V : Type 0} → Ops V → Plan V → List V → Until → Row V → Row V
round_of o p s u = round o p u.paths (side_of o s u.before) (side_of o s u.end)

-- x is the row of a step, whatever the stretch s holds; an until's is the least solution, a dual's the opposite of that.
abbrev pub RowOf : {V : Type 0} → Ops V → Plan V → List V → Step → Row V → Type 0
RowOf o p s (Mark m) x = Same p.stages x (λ i. as_read o (p.mark i m))
RowOf o p s (Copied f) x = Same p.stages x (side_of o s f)
RowOf o p s (And f g) x = Same p.stages x (λ i. o.meet (side_of o s f i) (side_of o s g i))
RowOf o p s (Or f g) x = Same p.stages x (λ i. o.join (side_of o s f i) (side_of o s g i))
RowOf o p s (Ex place) x = Same p.stages x (ex o p (side_of o s (At place)))
RowOf o p s (Ax place) x = Same p.stages x (ax o p (side_of o s (At place)))
RowOf o p s (Untils u) x = Least o p.stages (round_of o p s u) x
RowOf {V} o p s (Dual u) x = (y : Row V) × Least o p.stages (round_of o p s u) y × Same p.stages x (λ i. o.opposite (y i))

-- A step's count: of an until, or of that in a dual, the rounds that change something, and of any other 0.
abbrev pub CountOf : {V : Type 0} → Ops V → Plan V → List V → Step → ℕ → Type 0
CountOf o p s (Mark m) k = k ≡ 0
CountOf o p s (Copied f) k = k ≡ 0
CountOf o p s (And f g) k = k ≡ 0
CountOf o p s (Or f g) k = k ≡ 0
CountOf o p s (Ex place) k = k ≡ 0
CountOf o p s (Ax place) k = k ≡ 0
CountOf o p s (Untils u) k = Rounds o p.stages (round_of o p s u) k
CountOf o p s (Dual u) k = Rounds o p.stages (round_of o p s u) k

-- The formula of a side, where `of` has that of the row at each place.
abbrev pub side_formula : (ℕ → Formula) → Side → Formula
side_formula of Bottom = F
side_formula of Top = T
side_formula of (At place) = of place
side_formula of (Not place) = not (of place)

-- The formula of an until between two sides.
abbrev pub until_formula : (ℕ → Formula) → Until → Formula
until_formula of u = until u.paths (side_formula of u.before) (side_formula of u.end)

-- The formula of a step.
abbrev pub formula_of : (ℕ → Formula) → Step → Formula
formula_of of (Mark m) = mark m
formula_of of (Copied f) = side_formula of f
formula_of of (And f g) = and (side_formula of f) (side_formula of g)
formula_of of (Or f g) = or (side_formula of f) (side_formula of g)
formula_of of (Ex place) = EX (of place)
formula_of of (Ax place) = AX (of place)
formula_of of (Untils u) = until_formula of u
formula_of of (Dual u) = not (until_formula of u)

-- The row that a side names is the value of its formula.
abbrev pub SideValued : {V : Type 0} → Ops V → Plan V → List V → (ℕ → Formula) → Side → Type 0
SideValued o p s of Bottom = Unit {0}
SideValued o p s of Top = Unit {0}
SideValued o p s of (At place) = Value o p (of place) (row o s place)
SideValued o p s of (Not place) = Value o p (of place) (row o s place)

-- Each row that a step names is.
abbrev pub Valued : {V : Type 0} → Ops V → Plan V → List V → (ℕ → Formula) → Step → Type 0
Valued o p s of (Mark m) = Unit {0}
Valued o p s of (Copied f) = SideValued o p s of f
Valued o p s of (And f g) = SideValued o p s of f × SideValued o p s of g
Valued o p s of (Or f g) = SideValued o p s of f × SideValued o p s of g
Valued o p s of (Ex place) = SideValued o p s of (At place)
Valued o p s of (Ax place) = SideValued o p s of (At place)
Valued o p s of (Untils u) = SideValued o p s of u.before × SideValued o p s of u.end
Valued o p s of (Dual u) = SideValued o p s of u.before × SideValued o p s of u.end

-- The same count, by the formula: that of the until.
abbrev pub StepTakes : {V : Type 0} → Ops V → Plan V → (ℕ → Formula) → Step → ℕ → Type 0
StepTakes o p of (Mark m) k = k ≡ 0
StepTakes o p of (Copied f) k = k ≡ 0
StepTakes o p of (And f g) k = k ≡ 0
StepTakes o p of (Or f g) k = k ≡ 0
StepTakes o p of (Ex place) k = k ≡ 0
StepTakes o p of (Ax place) k = k ≡ 0
StepTakes o p of (Untils u) k = Takes o p (until_formula of u) k
StepTakes o p of (Dual u) k = Takes o p (until_formula of u) k

-- Whether a row of n entries ends at a place or before, and whether the one that a side names does.
abbrev pub ends_by : ℕ → ℕ → ℕ → Bool
ends_by n end place = nat_le (place + n) end

abbrev pub side_by : ℕ → ℕ → Side → Bool
side_by n end Bottom = true
side_by n end Top = true
side_by n end (At place) = ends_by n end place
side_by n end (Not place) = ends_by n end place

-- Whether the rows that a step names end there or before, and its mark is one of a.
abbrev pub step_by : ℕ → ℕ → ℕ → Step → Bool
step_by n a end (Mark m) = nat_lt m a
step_by n a end (Copied f) = side_by n end f
step_by n a end (And f g) = side_by n end f && side_by n end g
step_by n a end (Or f g) = side_by n end f && side_by n end g
step_by n a end (Ex place) = ends_by n end place
step_by n a end (Ax place) = ends_by n end place
step_by n a end (Untils u) = side_by n end u.before && side_by n end u.end
step_by n a end (Dual u) = side_by n end u.before && side_by n end u.end

-- Whether all is laid in order: the arrows and marks and the rows that the step names, then the line's row, then the two work rows, within the stretch.
abbrev pub laid : ℕ → ℕ → Step → ℕ → ℕ → ℕ → Bool
laid n a step to work len = (nat_le (n * (n + a)) to && step_by n a to step) && (ends_by n work to && nat_le (work + (n + n)) len)

-- What a lent stretch holds: arrows row by row, then marks stage by stage, then rows, each named by the place where it begins.
use Rattle.std.specs.Prelude.{◌≡◌, ℕ, ◌+◌, ◌*◌, ◌<◌, ◌≤◌, Bool, true, false, ◌⊎◌, List, slice_index_or}
use Rattle.ctl.specs.Operations.{Ops, Valid}
use Rattle.ctl.specs.Formulas.{Plan}
use Rattle.ctl.specs.Values.{Row}

-- The row that begins at a place.
abbrev pub row : {V : Type 0} → Ops V → List V → ℕ → Row V
row o s place t = slice_index_or s (place + t) o.lowest

-- Its n entries are values.
abbrev pub HoldsValues : {V : Type 0} → Ops V → ℕ → List V → ℕ → Type 0
HoldsValues o n s place = (t : ℕ) → t < n → Valid o (row o s place t)

-- The plan of n stages and a marks that the stretch begins with.
abbrev pub plan_of : {V : Type 0} → Ops V → ℕ → ℕ → List V → Plan V
plan_of o n a s = record { stages = n; arrow = λ i t. slice_index_or s (i * n + t) o.lowest; mark = λ i m. slice_index_or s (n * n + (i * a + m)) o.lowest }

-- k is none of the n places from `place` on.
abbrev pub Off : ℕ → ℕ → ℕ → Type 0
Off place n k = (k < place) ⊎ (place + n ≤ k)

-- t is as s but for the n places from `place` on.
abbrev pub Kept : {V : Type 0} → Ops V → ℕ → ℕ → List V → List V → Type 0
Kept o place n s t = (k : ℕ) → Off place n k → slice_index_or t k o.lowest ≡ slice_index_or s k o.lowest

-- A test's answer, and what it tells.
abbrev pub Tells : Bool → Type 0 → Type 0
Tells true P = P
Tells false P = P → ⊥

-- The logic that a call is given.
use Rattle.std.specs.Prelude.{ℕ}
use Rattle.scale.specs.Model.{Model, Meanings}
use Rattle.sheet.specs.Sheet.{LogicOf}

abbrev pub logic_of : {V : Type 0} → Model V → (V → V) → (ℕ → ℕ) → LogicOf V
logic_of m opposite partner = record { model = m; opposite = opposite; partner = partner }

abbrev pub logic_at : {S V : Type 0} → Meanings S V → S → LogicOf V
logic_at l s = logic_of (l.model s) (l.opposes s) (l.partners s)

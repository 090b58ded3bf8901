-- When words write a logic, by the laws of scales and logics alone.
use Rattle.std.specs.Prelude.{◌≡◌, ℕ, ◌<◌, Bool, true, List, length, nat_lt}
use Rattle.scale.specs.Model.{Model}
use Rattle.scale.specs.Laws.{Lawful, Opposed}
use Rattle.orders.specs.Orders.{under, listed}
use Rattle.orders.specs.Words.{readable, rows_of, opposites_of}

-- Some scale has the numbers below n as its values, in the order `le`, and keeps every law,
-- and `opposite` makes it a logic with some partners.
pub record LogicOn (n : ℕ) (le : ℕ → ℕ → Bool) (opposite : ℕ → ℕ) : Type 0 where
  pub scale : Model ℕ
  pub partner : ℕ → ℕ
  pub values : (v : ℕ) → scale.valid v ≡ nat_lt v n
  pub order : (u v : ℕ) → u < n → v < n → scale.leq u v ≡ le u v
  pub lawful : Lawful scale
  pub opposed : Opposed scale opposite partner

-- The count and the layout are right, and the rows and opposites are those of a logic.
abbrev pub WritesLogic : List ℕ → Type 0
WritesLogic words = (readable words ≡ true) × LogicOn (length words) (under (rows_of words)) (listed (opposites_of words))

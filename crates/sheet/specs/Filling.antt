-- How answer rows are filled, line by line.
use Rattle.std.specs.Prelude.{◌≡◌, ℕ, ◌<◌, ◌≤◌, ◌⊎◌, List, slice_index_or}
use Rattle.lines.specs.declared.Line.{Line}
use Rattle.lines.specs.declared.Line.TheVariants.{False, True, Mark, One, Two}
use Rattle.lines.specs.declared.Unary.{Unary}
use Rattle.lines.specs.declared.Unary.TheVariants.{Not, Ex, Ax, Ef, Af, Eg, Ag}
use Rattle.lines.specs.declared.Binary.{Binary}
use Rattle.lines.specs.declared.Binary.TheVariants.{And, Or, Implies, Eu, Au, Er, Ar}
use Rattle.lines.specs.Word.{word_of, FitsAt}
use Rattle.ctl.specs.declared.Paths.{Paths}
use Rattle.ctl.specs.declared.Paths.TheVariants as paths
use Rattle.ctl.specs.Operations.{Valid}
use Rattle.ctl.specs.Values.{Value, Takes}
use Rattle.steps.specs.declared.Side.{Side}
use Rattle.steps.specs.declared.Side.TheVariants as side
use Rattle.steps.specs.declared.Until.{Until}
use Rattle.steps.specs.declared.Step.{Step}
use Rattle.steps.specs.declared.Step.TheVariants as step
use Rattle.rounds.specs.Settled as rounds
use Rattle.sheet.specs.Layout.{answer_row, work_rows}
use Rattle.sheet.specs.Lines.{formula, until_in, Says}
use Rattle.sheet.specs.Sheet.{LogicOf, ops, plan_in, answers_in, Elsewhere}

-- The step by which a line's answer row is filled: the rows that it names are the answer rows of earlier lines.
abbrev pub until : Paths → Side → Side → Until
until w f g = record { paths = w; before = f; end = g }

abbrev pub one_step : Unary → ℕ → Step
one_step Not p = step.Copied (side.Not p)
one_step Ex p = step.Ex p
one_step Ax p = step.Ax p
one_step Ef p = step.Until (until paths.One side.Top (side.At p))
one_step Af p = step.Until (until paths.All side.Top (side.At p))
one_step Eg p = step.Dual (until paths.All side.Top (side.Not p))
one_step Ag p = step.Dual (until paths.One side.Top (side.Not p))

abbrev pub two_step : Binary → ℕ → ℕ → Step
two_step And p q = step.And (side.At p) (side.At q)
two_step Or p q = step.Or (side.At p) (side.At q)
two_step Implies p q = step.Or (side.Not p) (side.At q)
two_step Eu p q = step.Until (until paths.One (side.At p) (side.At q))
two_step Au p q = step.Until (until paths.All (side.At p) (side.At q))
two_step Er p q = step.Dual (until paths.All (side.Not p) (side.Not q))
two_step Ar p q = step.Dual (until paths.One (side.Not p) (side.Not q))

abbrev pub step_of : ℕ → ℕ → Line → Step
step_of n a False = step.Copied side.Bottom
step_of n a True = step.Copied side.Top
step_of n a (Mark m) = step.Mark m
step_of n a (One o l) = one_step o (answer_row n a l)
step_of n a (Two o l r) = two_step o (answer_row n a l) (answer_row n a r)

-- Line k is settled, if the word says a line there: its row is filled, and it took r rounds.
abbrev pub LineSettled : {V : Type 0} → LogicOf V → ℕ → ℕ → ℕ → ℕ → List V → ℕ → List V → Type 0
LineSettled lo n a k word s r t = (l : Line) → word_of l ≡ word → FitsAt k a l → rounds.Settled (ops lo) n a (step_of n a l) (answer_row n a k) (work_rows n a) s r t

-- The first k answer rows are the values of their lines' formulas, r is the greatest of their counts, and all but them and the work rows is as it was.
pub record Filled {V : Type 0} (lo : LogicOf V) (n a : ℕ) (ls : List Line) (s : List V) (k r : ℕ) (t : List V) : Type 0 where
  pub values : (i : ℕ) → i < k → Value (ops lo) (plan_in lo.model n a s) (formula ls i) (answers_in lo.model n a t i)
  pub valid : (i j : ℕ) → i < k → j < n → Valid (ops lo) (answers_in lo.model n a t i j)
  pub bounds : (i c : ℕ) → i < k → Takes (ops lo) (plan_in lo.model n a s) (until_in ls i) c → c ≤ r
  pub reached : (r ≡ 0) ⊎ ((i : ℕ) × (i < k) × Takes (ops lo) (plan_in lo.model n a s) (until_in ls i) r)
  pub kept : (p : ℕ) → Elsewhere n a k p → slice_index_or t p lo.model.lowest ≡ slice_index_or s p lo.model.lowest

-- Whatever lines the first k words say, their rows are filled.
abbrev pub Fills : {V : Type 0} → LogicOf V → ℕ → ℕ → ℕ → List ℕ → List V → ℕ → ℕ → List V → Type 0
Fills lo n a count ws s k r t = (ls : List Line) → Says a count ws ls → Filled lo n a ls s k r t

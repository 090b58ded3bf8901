-- What the answers of checks stand for.
use Rattle.std.specs.Prelude.{◌≡◌, ℕ, ◌+◌, ◌<◌, ◌≤◌, List, [], Ok, Err, Result, slice_index}
use Rattle.scale.specs.Model.{Model}
use Rattle.lines.specs.Word.{WellFormed}
use Rattle.sheet.specs.declared.size.Size.{Size}
use Rattle.sheet.specs.declared.state.Refusal.{Refusal}
use Rattle.sheet.specs.declared.state.Refusal.TheVariants.{Size as NoSize, State, Mark, Line, Answer}
use Rattle.sheet.specs.Layout.{arrow_place, mark_place, answer_row}
use Rattle.sheet.specs.Sheet.{Verdict, refuse, accept, needs, accepts, lent}

-- A check that passes accepts the call, with no line to append; one that does not gives the refusal.
abbrev pub verdict_of : Result Unit Refusal → Verdict
verdict_of (Ok _) = accept []
verdict_of (Err r) = refuse r

-- The checks of the memory lent, alone.
abbrev pub LentRight : {V : Type 0} → Model V → ℕ → ℕ → ℕ → ℕ → Result Unit Refusal → Type 0
LentRight m n a vs ws r = lent m n a vs ws (accepts []) (verdict_of r)

-- A check with what it finds: where it passes, P holds of that.
abbrev pub Finds : {A : Type 0} → (Verdict → Type 0) → (A → Type 0) → Result A Refusal → Type 0
Finds check P (Ok x) = check (accept []) × P x
Finds check P (Err r) = check (refuse r)

-- The size of a sheet that is opened.
abbrev pub SizeRight : ℕ → ℕ → Result Size Refusal → Type 0
SizeRight n a = Finds (needs ((1 ≤ n) × (n ≤ 64) × (a ≤ 16)) NoSize (λ _. accepts [])) (λ size. size ≡ record { stages = n; marks = a; lines = 0 })

-- The checks of the places of an arrow, of a mark, and of the answer of a line at a stage, before other checks.
abbrev pub arrow_placed : ℕ → ℕ → ℕ → (Verdict → Type 0) → Verdict → Type 0
arrow_placed n s t rest = needs ((s < n) × (t < n)) State (λ _. rest)

abbrev pub mark_placed : ℕ → ℕ → ℕ → ℕ → (Verdict → Type 0) → Verdict → Type 0
mark_placed n a s k rest = needs (s < n) State (λ _. needs (k < a) Mark (λ _. rest))

abbrev pub answer_placed : ℕ → ℕ → ℕ → ℕ → (Verdict → Type 0) → Verdict → Type 0
answer_placed n count k s rest = needs (k < count) Answer (λ _. needs (s < n) State (λ _. rest))

-- Those places.
abbrev pub ArrowRight : ℕ → ℕ → ℕ → Result ℕ Refusal → Type 0
ArrowRight n s t = Finds (arrow_placed n s t (accepts [])) (λ place. place ≡ arrow_place n s t)

abbrev pub MarkRight : ℕ → ℕ → ℕ → ℕ → Result ℕ Refusal → Type 0
MarkRight n a s k = Finds (mark_placed n a s k (accepts [])) (λ place. place ≡ mark_place n a s k)

abbrev pub AnswerRight : ℕ → ℕ → ℕ → ℕ → ℕ → Result ℕ Refusal → Type 0
AnswerRight n a count k s = Finds (answer_placed n count k s (accepts [])) (λ place. place ≡ answer_row n a k + s)

-- The words of the first `count` lines all say lines, or not.
abbrev pub LinesRight : ℕ → ℕ → List ℕ → Result Unit Refusal → Type 0
LinesRight a count ws r = needs ((k : ℕ) → k < count → WellFormed k a (slice_index ws k)) Line (λ _. accepts []) (verdict_of r)

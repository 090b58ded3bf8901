-- Runs of calls on an opened sheet, and the law that all of them keep.
use Rattle.std.specs.Prelude.{◌≡◌, ℕ, ◌<◌, ◌≤◌, ◌↔◌, List, [], ◌∷◌, ◌++◌, length, take, drop, Ok, Err, Result, ◌≢◌}
use Rattle.ctl.specs.Operations.{Carries}
use Rattle.ctl.specs.Readings.{Holds}
use Rattle.ctl.specs.Values.{Row, Value}
use Rattle.sheet.specs.declared.state.Draft.{Draft}
use Rattle.sheet.specs.declared.state.Refusal.{Refusal}
use Rattle.sheet.specs.Lines.{formula}
use Rattle.sheet.specs.Sheet.{LogicOf, ops, Sheet, Call, read_at, Reply, rounds, value, refused, Verdict, refuse, accept, OpensAs, Step, Opens, draft_on}
use Rattle.sheet.specs.Account.{Event, Account, plan, opening, Judges, onward}

-- The beginning of the memory that a call is lent, and the whole after the call.
abbrev pub lent_to : {V : Type 0} → Event → Sheet V → Sheet V
lent_to e w = record {
  phase = w.phase;
  stages = w.stages;
  marks = w.marks;
  lines = w.lines;
  stretch = take e.values_lent w.stretch;
  words = take e.words_lent w.words;
}

abbrev pub back : {V : Type 0} → Event → Sheet V → Sheet V → Sheet V
back e w u = record {
  phase = u.phase;
  stages = u.stages;
  marks = u.marks;
  lines = u.lines;
  stretch = u.stretch ++ drop e.values_lent w.stretch;
  words = u.words ++ drop e.words_lent w.words;
}

-- One call of a run: the step that the call's contract states, on what it is lent; the rest of the memory stays.
pub record Moves {V : Type 0} (l : LogicOf V) (w : Sheet V) (e : Event) (a : Reply V) (t : Sheet V) : Type 0 where
  pub within_values : e.values_lent ≤ length w.stretch
  pub within_words : e.words_lent ≤ length w.words
  pub to : Sheet V
  pub step : Step l (lent_to e w) e.call a to
  pub whole : t ≡ back e w to

-- A call of the past, with its answer.
pub record Past (V : Type 0) : Type 0 where
  pub event : Event
  pub reply : Reply V

-- Each call meets the sheet that its forerunners produced; the first comes first.
pub data Run {V : Type 0} (l : LogicOf V) : Sheet V → List (Past V) → Sheet V → Type 0 where
  still : {w : Sheet V} → Run l w [] w
  more : {w u t : Sheet V} {p : Past V} {h : List (Past V)} → Moves l w p.event p.reply u → Run l u h t → Run l w (p ∷ h) t

-- The answer says what the verdict is.
abbrev pub SaysSo : {V : Type 0} → Verdict → Reply V → Type 0
SaysSo (refuse r) a = a ≡ refused r
SaysSo (accept new) a = (r : Refusal) → a ≢ refused r

-- What the account says of one answer.
pub record Told {V : Type 0} (l : LogicOf V) (x : Account V) (e : Event) (v : Verdict) (a : Reply V) : Type 0 where
  -- the call is accepted exactly when the account accepts it, and else refused with the account's first refusal
  pub judged : Judges l.model x e v
  pub only : (u : Verdict) → Judges l.model x e u → u ≡ v
  pub acceptance : SaysSo v a
  -- the value read is the value of the line's formula over the entries accepted so far
  pub valued : (k s : ℕ) (y : V) → e.call ≡ read_at k s → a ≡ value y → (z : Row V) × Value (ops l) (plan x) (formula x.lines k) z × (y ≡ z s)
  -- a cut is at or below the value read exactly when the line's reading at that stage and cut holds on the entries accepted so far
  pub reading : (k s : ℕ) (y : V) → e.call ≡ read_at k s → a ≡ value y → (j : ℕ) → j < l.model.cuts →
      Carries (ops l) j y ↔ Holds (ops l) (plan x) (formula x.lines k) j s
  -- the rounds of a settling never exceed the number of stages
  pub bounded : (k : ℕ) → a ≡ rounds k → k ≤ x.stages

-- Every answer of a history, each by the account that the calls before it left.
pub data AllTold {V : Type 0} (l : LogicOf V) : Account V → List (Past V) → Type 0 where
  none_told : {x : Account V} → AllTold l x []
  one_told : {x : Account V} {p : Past V} {h : List (Past V)} (v : Verdict) → Told l x p.event v p.reply → AllTold l (onward l.model x p.event.call v) h → AllTold l x (p ∷ h)

-- g is h with some of its refused calls struck.
pub data Struck {V : Type 0} : List (Past V) → List (Past V) → Type 0 where
  nothing : Struck [] []
  keeps : {p : Past V} {h g : List (Past V)} → Struck h g → Struck (p ∷ h) (p ∷ g)
  strikes : {p : Past V} {h g : List (Past V)} (r : Refusal) → p.reply ≡ refused r → Struck h g → Struck (p ∷ h) g

abbrev pub events : {V : Type 0} → List (Past V) → List Event
events [] = []
events (p ∷ h) = p.event ∷ events h

-- The calls that remain can be run, with the answers that they had and to the same sheet; and however they are run, they give those answers.
pub record NoTrace {V : Type 0} (l : LogicOf V) (w : Sheet V) (g : List (Past V)) (t : Sheet V) : Type 0 where
  pub runs : Run l w g t
  pub alike : (f : List (Past V)) (u : Sheet V) → events f ≡ events g → Run l w f u → f ≡ g

-- The law of a sheet that has just been opened with n stages and a marks, of the run h.
pub record LawfulRun {V : Type 0} (l : LogicOf V) (n a : ℕ) (w : Sheet V) (h : List (Past V)) (t : Sheet V) : Type 0 where
  pub told : AllTold l (opening l.model n a) h
  pub no_trace : (g : List (Past V)) → Struck h g → NoTrace l w g t

-- An open that was accepted: every run on the sheet and memory that it left keeps the law.
abbrev pub Begins : {V : Type 0} → LogicOf V → ℕ → ℕ → Result Draft Refusal → List V → List ℕ → Type 0
Begins {V} l n a (Ok d) s ws = (h : List (Past V)) (t : Sheet V) → Run l (draft_on d s ws) h t → LawfulRun l n a (draft_on d s ws) h t
Begins l n a (Err r) s ws = Unit {0}

-- The verdict that an open's answer stands for.
abbrev pub open_verdict : Result Draft Refusal → Verdict
open_verdict (Ok d) = accept []
open_verdict (Err r) = refuse r

-- The law for all runs. Take any open, on any memory: it is accepted exactly when the account accepts it, and else refused with
-- the account's first refusal; and if it is accepted, every run on the sheet and memory that it left is lawful.
abbrev pub Law : {V : Type 0} → LogicOf V → Type 0
Law {V} l = (n a : ℕ) (s t : List V) (ws xs : List ℕ) (r : Result Draft Refusal) → Opens l n a s ws r t xs →
    OpensAs l.model n a (length s) (length ws) (open_verdict r) × Begins l n a r t xs

-- x is the account of a history.
pub data Accounts {V : Type 0} (l : LogicOf V) : Account V → List (Past V) → Account V → Type 0 where
  so_far : {x : Account V} → Accounts l x [] x
  and_then : {x y : Account V} {p : Past V} {h : List (Past V)} (v : Verdict) → Judges l.model x p.event v → Accounts l (onward l.model x p.event.call v) h y → Accounts l x (p ∷ h) y

-- For every run that led to a sheet of which w is lent: this answer is what the account of that run says.
abbrev pub Tells : {V : Type 0} → LogicOf V → Sheet V → Call → Reply V → Type 0
Tells {V} l w c b = (n a : ℕ) (s t : List V) (ws xs : List ℕ) (d : Draft) → Opens l n a s ws (Ok d) t xs →
    (h : List (Past V)) (v : Sheet V) → Run l (draft_on d t xs) h v →
    (e : Event) → e.call ≡ c → e.values_lent ≤ length v.stretch → e.words_lent ≤ length v.words → lent_to e v ≡ w →
    (x : Account V) × Accounts l (opening l.model n a) h x × ((y : Verdict) × Told l x e y b)

-- Which calls the words of a plan spell on its sheet, and what a history of these calls prints.
use Rattle.std.specs.Prelude.{◌≡◌, ℕ, ◌+◌, ◌<◌, Bool, true, false, ◌⊎◌, List, [], ◌∷◌, ◌++◌, length, replicate, Some, None, Option, ◌≢◌}
use Rattle.scale.specs.Model.{Model}
use Rattle.words.specs.declared.kind.Entry.{Entry}
use Rattle.words.specs.declared.kind.Entry.TheVariants.{Arrow, Mark, Line}
use Rattle.words.specs.declared.kind.Kind.{Kind}
use Rattle.words.specs.declared.kind.Kind.TheVariants.{End, Size, Enter, Ask}
use Rattle.words.specs.Kinds.{kind_of}
use Rattle.sheet.specs.declared.state.Refusal as sheets
use Rattle.sheet.specs.Layout.{most_lines, room}
use Rattle.sheet.specs.Sheet.{LogicOf, Sheet as SheetOf, Phase, drafting, settled, Call, arrow, mark, line, text, settle, read_at, reopen, Reply, done, rounds, value, refused, refuse, accept, OpensAs}
use Rattle.sheet.specs.Runs.{Past, Run, LawfulRun}
use Rattle.report.specs.declared.Output.{Output}
use Rattle.report.specs.declared.Output.TheVariants.{Rounds, Value}
use Rattle.report.specs.declared.Refusal.TheVariants.{Word, Sheet}
use Rattle.report.specs.declared.Stop.{Stop}

abbrev pub entry_call : Entry → Call
entry_call (Arrow from to number) = arrow from to number
entry_call (Mark stage m number) = mark stage m number
entry_call (Line word) = line word

-- The calls that a word spells in a phase of the sheet, and the phase after them: an entry reopens a settled sheet, and an ask
-- settles a draft. In either phase an end spells no call, and any other word, or one of no kind, spells nothing.
pub data Spells : Phase → Option Kind → List Call → Phase → Type 0 where
  enters : {e : Entry} → Spells drafting (Some (Enter e)) (entry_call e ∷ []) drafting
  reopens : {e : Entry} → Spells settled (Some (Enter e)) (reopen ∷ entry_call e ∷ []) drafting
  settles : {k s : ℕ} → Spells drafting (Some (Ask k s)) (settle ∷ read_at k s ∷ []) settled
  reads : {k s : ℕ} → Spells settled (Some (Ask k s)) (read_at k s ∷ []) settled

-- The word is neither the end nor spells a call.
pub record OutOfPhase (p : Phase) (k : Option Kind) : Type 0 where
  pub no_end : k ≡ Some End → ⊥
  pub no_calls : (cs : List Call) (q : Phase) → Spells p k cs q → ⊥

-- Every call is lent the memory of the largest sheet, whole.
abbrev pub lent_values : ℕ
lent_values = room 64 16

abbrev pub past : {V : Type 0} → Call → Reply V → Past V
past c a = record { event = record { call = c; values_lent = lent_values; words_lent = most_lines }; reply = a }

-- The calls are made one after another, up to the first that is refused: the history, and that refusal.
pub data Made {V : Type 0} : List Call → List (Past V) → Option sheets.Refusal → Type 0 where
  all : Made [] [] None
  stops : {c : Call} {cs : List Call} {r : sheets.Refusal} → Made (c ∷ cs) (past c (refused r) ∷ []) (Some r)
  goes : {c : Call} {cs : List Call} {a : Reply V} {h : List (Past V)} {r : Option sheets.Refusal} → ((e : sheets.Refusal) → a ≢ refused e) → Made cs h r → Made (c ∷ cs) (past c a ∷ h) r

-- The plan stops at word i, which is refused as missing, misplaced or malformed, or by a call of the sheet.
abbrev pub word_at : ℕ → Option Stop
word_at i = Some (record { word = i; refusal = Word })

abbrev pub call_at : ℕ → sheets.Refusal → Option Stop
call_at i r = Some (record { word = i; refusal = Sheet r })

-- The words from number i on, in a phase of the sheet: the history of the calls that they spell, and where they stop.
-- `more` says that bytes follow the last word.
pub data Read {V : Type 0} (more : Bool) : ℕ → Phase → List ℕ → List (Past V) → Option Stop → Type 0 where
  missing : {i : ℕ} {p : Phase} → Read more i p [] [] (word_at i)
  misplaced : {i : ℕ} {p : Phase} {w : ℕ} {ws : List ℕ} → OutOfPhase p (kind_of w) → Read more i p (w ∷ ws) [] (word_at i)
  ends : {i : ℕ} {p : Phase} {w : ℕ} → kind_of w ≡ Some End → more ≡ false → Read more i p (w ∷ []) [] None
  after_end : {i : ℕ} {p : Phase} {w : ℕ} {ws : List ℕ} → kind_of w ≡ Some End → (0 < length ws) ⊎ (more ≡ true) → Read more i p (w ∷ ws) [] (word_at (i + 1))
  stopped : {i : ℕ} {p q : Phase} {w : ℕ} {ws : List ℕ} {cs : List Call} {h : List (Past V)} {r : sheets.Refusal} →
      Spells p (kind_of w) cs q → Made cs h (Some r) → Read more i p (w ∷ ws) h (call_at i r)
  goes_on : {i : ℕ} {p q : Phase} {w : ℕ} {ws : List ℕ} {cs : List Call} {h g : List (Past V)} {stop : Option Stop} →
      Spells p (kind_of w) cs q → Made cs h None → Read more (i + 1) q ws g stop → Read more i p (w ∷ ws) (h ++ g) stop

-- What a call prints: a settling its rounds, a read the value's number.
abbrev pub settle_prints : {V : Type 0} → Reply V → List Output
settle_prints done = []
settle_prints (rounds k) = Rounds k ∷ []
settle_prints (value v) = []
settle_prints (refused r) = []

abbrev pub read_prints : {V : Type 0} → Model V → ℕ → ℕ → Reply V → List Output
read_prints m k s done = []
read_prints m k s (rounds r) = []
read_prints m k s (value v) = Value k s (m.number v) ∷ []
read_prints m k s (refused r) = []

abbrev pub call_prints : {V : Type 0} → Model V → Call → Reply V → List Output
call_prints m (arrow s t v) a = []
call_prints m (mark s k v) a = []
call_prints m (line w) a = []
call_prints m (text ns bs) a = []
call_prints m settle a = settle_prints a
call_prints m (read_at k s) a = read_prints m k s a
call_prints m reopen a = []

abbrev pub prints : {V : Type 0} → Model V → List (Past V) → List Output
prints m [] = []
prints m (p ∷ h) = call_prints m p.event.call p.reply ++ prints m h

-- A sheet of n stages and a marks that has just been opened.
abbrev pub opened : {V : Type 0} → Model V → ℕ → ℕ → SheetOf V
opened m n a = record { phase = drafting; stages = n; marks = a; lines = 0; stretch = replicate lent_values m.lowest; words = replicate most_lines 0 }

-- The words after the size word, from number i on: they spell a history of calls, which is a run of the opened sheet, so that the
-- law for all runs holds of every answer; what is printed is what this history prints.
pub record Played {V : Type 0} (l : LogicOf V) (n a : ℕ) (more : Bool) (i : ℕ) (ws : List ℕ) (os : List Output) (stop : Option Stop) : Type 0 where
  pub history : List (Past V)
  pub last : SheetOf V
  pub spelled : Read more i drafting ws history stop
  pub run : Run l (opened l.model n a) history last
  pub lawful : LawfulRun l n a (opened l.model n a) history last
  pub printed : os ≡ prints l.model history

-- A plan over a logic, from its size word on, which has number i.
pub data SheetPlan {V : Type 0} (l : LogicOf V) (more : Bool) (i : ℕ) : List ℕ → List Output → Option Stop → Type 0 where
  no_size : SheetPlan l more i [] [] (word_at i)
  other_word : {w : ℕ} {ws : List ℕ} → ((n a : ℕ) → kind_of w ≢ Some (Size n a)) → SheetPlan l more i (w ∷ ws) [] (word_at i)
  not_opened : {w : ℕ} {ws : List ℕ} {n a : ℕ} {r : sheets.Refusal} →
      kind_of w ≡ Some (Size n a) → OpensAs l.model n a lent_values most_lines (refuse r) → SheetPlan l more i (w ∷ ws) [] (call_at i r)
  played : {w : ℕ} {ws : List ℕ} {n a : ℕ} {os : List Output} {stop : Option Stop} →
      kind_of w ≡ Some (Size n a) → OpensAs l.model n a lent_values most_lines (accept []) → Played l n a more (i + 1) ws os stop → SheetPlan l more i (w ∷ ws) os stop

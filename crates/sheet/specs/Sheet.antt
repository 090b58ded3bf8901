-- A sheet with the memory lent to it, when a call is refused, and what a call does.
use Rattle.std.specs.Prelude.{◌≡◌, ℕ, ◌+◌, ◌<◌, ◌≤◌, Bool, true, false, cond, ◌⊎◌, List, [], ◌∷◌, map, length, replicate, Ok, Err, Result, slice_index_or, slice_set}
use Rattle.std.proofs.lemmas.List.Edits.{sets}
use Rattle.scale.specs.Model.{Model, read, most_values}
use Rattle.lines.specs.declared.Line.{Line}
use Rattle.lines.specs.Word.{word_of, WellFormed}
use Rattle.tokens.specs.Names.{Proper}
use Rattle.formula.specs.Grammar.{Tree}
use Rattle.formula.specs.Words.{size}
use Rattle.formula.specs.Tells.{Taken, held, cleared}
use Rattle.ctl.specs.Operations.{Ops, ops_of, Valid}
use Rattle.ctl.specs.Formulas.{Plan}
use Rattle.ctl.specs.Values.{Row, Value}
use Rattle.sheet.specs.declared.state.Draft.{Draft}
use Rattle.sheet.specs.declared.state.Settled.{Settled}
use Rattle.sheet.specs.declared.state.Refusal.{Refusal}
use Rattle.sheet.specs.declared.state.Refusal.TheVariants.{Size, Stretch, Words, State, Mark, Value as NoValue, Line as BadLine, Full, Answer, Logic, Names, Text}
use Rattle.sheet.specs.Layout.{most_lines, room, arrow_place, mark_place, answer_row, work_rows}
use Rattle.sheet.specs.Lines.{formula, tree_lines, Says, GreatestCount}

-- A logic: its scale, its opposite and its partners.
pub record LogicOf (V : Type 0) : Type 0 where
  pub model : Model V
  pub opposite : V → V
  pub partner : ℕ → ℕ

abbrev pub ops : {V : Type 0} → LogicOf V → Ops V
ops l = ops_of l.model l.opposite l.partner

pub data Phase : Type 0 where
  drafting settled : Phase

-- The two states with their numbers, and the memory lent.
pub record Sheet (V : Type 0) : Type 0 where
  pub phase : Phase
  pub stages : ℕ
  pub marks : ℕ
  pub lines : ℕ
  pub stretch : List V
  pub words : List ℕ

-- A call with its arguments: values go by their numbers, lines by their words, texts by their bytes.
pub data Call : Type 0 where
  arrow : (from to number : ℕ) → Call
  mark : (stage number_of_mark number : ℕ) → Call
  line : (word : ℕ) → Call
  text : (names formula : List ℕ) → Call
  settle : Call
  read_at : (of_line stage : ℕ) → Call
  reopen : Call

-- What a call answers.
pub data Reply (V : Type 0) : Type 0 where
  done : Reply V
  rounds : ℕ → Reply V
  value : V → Reply V
  refused : Refusal → Reply V

-- Which calls a state permits.
abbrev pub Permits : Phase → Call → Type 0
Permits drafting (arrow s t v) = Unit {0}
Permits drafting (mark s k v) = Unit {0}
Permits drafting (line w) = Unit {0}
Permits drafting (text ns bs) = Unit {0}
Permits drafting settle = Unit {0}
Permits drafting (read_at k s) = ⊥
Permits drafting reopen = ⊥
Permits settled (arrow s t v) = ⊥
Permits settled (mark s k v) = ⊥
Permits settled (line w) = ⊥
Permits settled (text ns bs) = ⊥
Permits settled settle = ⊥
Permits settled (read_at k s) = Unit {0}
Permits settled reopen = Unit {0}

-- A call is refused, or accepted, with the lines that it appends.
pub data Verdict : Type 0 where
  refuse : Refusal → Verdict
  accept : List Line → Verdict

-- X is needed: without it the call is refused as r.
abbrev pub needs : (X : Type 0) → Refusal → (X → Verdict → Type 0) → Verdict → Type 0
needs X r rest v = ((X → ⊥) × (v ≡ refuse r)) ⊎ ((x : X) × rest x v)

abbrev pub accepts : List Line → Verdict → Type 0
accepts new v = v ≡ accept new

-- The checks of each call in their order, for n stages and a marks: `count` is the number of lines, and `InOrder` says that the
-- line words are in order.
module _ {V : Type 0} (m : Model V) (n a : ℕ) where
  abbrev pub Asked : ℕ → Type 0 → Call → Verdict → Type 0
  Asked count InOrder (arrow s t v) = needs ((s < n) × (t < n)) State (λ _. needs (v < m.size) NoValue (λ _. accepts []))
  Asked count InOrder (mark s k v) = needs (s < n) State (λ _. needs (k < a) Mark (λ _. needs (v < m.size) NoValue (λ _. accepts [])))
  Asked count InOrder (line w) = needs (count < most_lines) Full (λ _. needs (WellFormed count a w) BadLine (λ l. accepts (l.0 ∷ [])))
  Asked count InOrder (text ns bs) =
      needs (Proper ns a) Names (λ _.
      needs ((t : Tree) × Taken ns bs t) Text (λ t.
      needs (count + size t.0 ≤ most_lines) Full (λ _. accepts (tree_lines count t.0))))
  Asked count InOrder settle = needs InOrder BadLine (λ _. accepts [])
  Asked count InOrder (read_at k s) = needs (k < count) Answer (λ _. needs (s < n) State (λ _. accepts []))
  Asked count InOrder reopen = accepts []

  -- Before them come the checks of the logic and of the lengths of the stretch and of the line words lent; reopening asks nothing.
  module _ (vs ws : ℕ) where
    abbrev pub lent : (Verdict → Type 0) → Verdict → Type 0
    lent rest =
        needs (m.size ≤ most_values) Logic (λ _.
        needs (room n a ≤ vs) Stretch (λ _.
        needs (most_lines ≤ ws) Words (λ _. rest)))

    abbrev pub Judged : ℕ → Type 0 → Call → Verdict → Type 0
    Judged count InOrder (arrow s t v) = lent (Asked count InOrder (arrow s t v))
    Judged count InOrder (mark s k v) = lent (Asked count InOrder (mark s k v))
    Judged count InOrder (line w) = lent (Asked count InOrder (line w))
    Judged count InOrder (text ns bs) = lent (Asked count InOrder (text ns bs))
    Judged count InOrder settle = lent (Asked count InOrder settle)
    Judged count InOrder (read_at k s) = lent (Asked count InOrder (read_at k s))
    Judged count InOrder reopen = Asked count InOrder reopen

    -- The checks of opening.
    abbrev pub OpensAs : Verdict → Type 0
    OpensAs = needs ((1 ≤ n) × (n ≤ 64) × (a ≤ 16)) Size (λ _. lent (accepts []))

-- The plan and the rows in a stretch.
abbrev pub plan_in : {V : Type 0} → Model V → ℕ → ℕ → List V → Plan V
plan_in m n a s = record {
  stages = n;
  arrow = λ i t. slice_index_or s (arrow_place n i t) m.lowest;
  mark = λ i k. slice_index_or s (mark_place n a i k) m.lowest;
}

abbrev pub answers_in : {V : Type 0} → Model V → ℕ → ℕ → List V → ℕ → Row V
answers_in m n a s k i = slice_index_or s (answer_row n a k + i) m.lowest

-- k is in none of the answer rows of the first `count` lines, and in none of the two work rows.
pub record Elsewhere (n a count k : ℕ) : Type 0 where
  pub answers : (k < answer_row n a 0) ⊎ (answer_row n a count ≤ k)
  pub work : (k < work_rows n a) ⊎ (room n a ≤ k)

-- An accepted settling: whatever the memory held, each line's answer row is the value of its formula over the plan,
-- the greatest count of rounds is reported, the two work rows are free, and all else is as it was.
pub record Settles {V : Type 0} (l : LogicOf V) (w : Sheet V) (answer : Reply V) (u : Sheet V) : Type 0 where
  pub reported : ℕ
  pub answered : answer ≡ rounds reported
  pub state : u.phase ≡ settled
  pub same_stages : u.stages ≡ w.stages
  pub same_marks : u.marks ≡ w.marks
  pub same_lines : u.lines ≡ w.lines
  pub same_words : u.words ≡ w.words
  pub same_length : length u.stretch ≡ length w.stretch
  pub said : List Line
  pub says : Says w.marks w.lines w.words said
  pub counts : GreatestCount (ops l) (plan_in l.model w.stages w.marks w.stretch) said reported
  pub values : (k : ℕ) → k < w.lines → Value (ops l) (plan_in l.model w.stages w.marks w.stretch) (formula said k) (answers_in l.model w.stages w.marks u.stretch k)
  pub valid : (k i : ℕ) → k < w.lines → i < w.stages → Valid (ops l) (answers_in l.model w.stages w.marks u.stretch k i)
  pub kept : (k : ℕ) → Elsewhere w.stages w.marks w.lines k → slice_index_or u.stretch k l.model.lowest ≡ slice_index_or w.stretch k l.model.lowest

-- A sheet with another stretch, other words and lines, or in the other state.
abbrev pub with_stretch : {V : Type 0} → List V → Sheet V → Sheet V
with_stretch s w = record { phase = w.phase; stages = w.stages; marks = w.marks; lines = w.lines; stretch = s; words = w.words }

abbrev pub with_words : {V : Type 0} → ℕ → List ℕ → Sheet V → Sheet V
with_words k ws w = record { phase = w.phase; stages = w.stages; marks = w.marks; lines = k; stretch = w.stretch; words = ws }

abbrev pub in_phase : {V : Type 0} → Phase → Sheet V → Sheet V
in_phase p w = record { phase = p; stages = w.stages; marks = w.marks; lines = w.lines; stretch = w.stretch; words = w.words }

-- An accepted line or text: the words of the new lines stand behind those that were there.
abbrev pub appended : {V : Type 0} → List Line → Sheet V → Sheet V
appended new w = with_words (w.lines + length new) (sets w.words w.lines (map word_of new)) w

-- What an accepted call answers and leaves.
abbrev pub Does : {V : Type 0} → LogicOf V → Sheet V → Call → List Line → Reply V → Sheet V → Type 0
Does l w (arrow s t v) new a u = (a ≡ done) × (u ≡ with_stretch (slice_set w.stretch (arrow_place w.stages s t) (l.model.value v)) w)
Does l w (mark s k v) new a u = (a ≡ done) × (u ≡ with_stretch (slice_set w.stretch (mark_place w.stages w.marks s k) (l.model.value v)) w)
Does l w (line x) new a u = (a ≡ done) × (u ≡ appended new w)
Does l w (text ns bs) new a u = (a ≡ done) × (u ≡ appended new w)
Does l w settle new a u = Settles l w a u
Does l w (read_at k s) new a u = (a ≡ value (read l.model (answers_in l.model w.stages w.marks w.stretch k s))) × (u ≡ w)
Does l w reopen new a u = (a ≡ done) × (u ≡ in_phase drafting w)

-- What a refused call leaves: everything as it stood, but a text refused as Text or Full sets the words after the last line to zero.
abbrev pub text_wipes : Refusal → Bool
text_wipes Size = false
text_wipes Stretch = false
text_wipes Words = false
text_wipes State = false
text_wipes Mark = false
text_wipes NoValue = false
text_wipes BadLine = false
text_wipes Full = true
text_wipes Answer = false
text_wipes Logic = false
text_wipes Names = false
text_wipes Text = true

abbrev pub wipes : Call → Refusal → Bool
wipes (arrow s t v) r = false
wipes (mark s k v) r = false
wipes (line w) r = false
wipes (text ns bs) r = text_wipes r
wipes settle r = false
wipes (read_at k s) r = false
wipes reopen r = false

abbrev pub left : {V : Type 0} → Bool → Sheet V → Sheet V
left b w = with_words w.lines (cond b (cleared w.lines w.words) w.words) w

abbrev pub Ends : {V : Type 0} → LogicOf V → Sheet V → Call → Verdict → Reply V → Sheet V → Type 0
Ends l w c (refuse r) a u = (a ≡ refused r) × (u ≡ left (wipes c r) w)
Ends l w c (accept new) a u = Does l w c new a u

-- One call: from the sheet and memory w, with the answer a, to u.
pub record Step {V : Type 0} (l : LogicOf V) (w : Sheet V) (c : Call) (a : Reply V) (u : Sheet V) : Type 0 where
  pub permitted : Permits w.phase c
  pub verdict : Verdict
  pub judged : Judged l.model w.stages w.marks (length w.stretch) (length w.words) w.lines ((ls : List Line) × Says w.marks w.lines w.words ls) c verdict
  pub ends : Ends l w c verdict a u

-- The sheets that the two states stand for. A number of lines over 64 stands for 64.
abbrev pub draft_on : {V : Type 0} → Draft → List V → List ℕ → Sheet V
draft_on d s ws = record { phase = drafting; stages = d.size.stages; marks = d.size.marks; lines = held d.size.lines; stretch = s; words = ws }

abbrev pub settled_on : {V : Type 0} → Settled → List V → List ℕ → Sheet V
settled_on d s ws = record { phase = settled; stages = d.size.stages; marks = d.size.marks; lines = held d.size.lines; stretch = s; words = ws }

-- The answers that results stand for.
abbrev pub entry_reply : {V : Type 0} → Result Unit Refusal → Reply V
entry_reply (Ok _) = done
entry_reply (Err r) = refused r

abbrev pub read_reply : {V : Type 0} → Result V Refusal → Reply V
read_reply (Ok v) = value v
read_reply (Err r) = refused r

abbrev pub settle_reply : {V : Type 0} → Result (Settled × ℕ) (Draft × Refusal) → Reply V
settle_reply (Ok (s, k)) = rounds k
settle_reply (Err (d, r)) = refused r

abbrev pub settle_sheet : {V : Type 0} → Result (Settled × ℕ) (Draft × Refusal) → List V → List ℕ → Sheet V
settle_sheet (Ok (x, k)) s ws = settled_on x s ws
settle_sheet (Err (d, r)) s ws = draft_on d s ws

-- Opening: what it answers, and the memory after it. Accepted, it sets the whole stretch to lowest and all words to 0.
abbrev pub Opened : {V : Type 0} → LogicOf V → ℕ → ℕ → List V → List ℕ → Sheet V → Type 0
Opened l n a s ws u = u ≡ record { phase = drafting; stages = n; marks = a; lines = 0; stretch = replicate (length s) l.model.lowest; words = replicate (length ws) 0 }

abbrev pub Opens : {V : Type 0} → LogicOf V → ℕ → ℕ → List V → List ℕ → Result Draft Refusal → List V → List ℕ → Type 0
Opens l n a s ws (Ok d) t xs = OpensAs l.model n a (length s) (length ws) (accept []) × Opened l n a s ws (draft_on d t xs)
Opens l n a s ws (Err r) t xs = OpensAs l.model n a (length s) (length ws) (refuse r) × (t ≡ s) × (xs ≡ ws)

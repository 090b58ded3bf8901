-- The account of a sequence of calls: what their arguments say, and of the memory only the lengths lent.
use Rattle.std.specs.Prelude.{ℕ, cond, ◌&&◌, List, [], ◌++◌, length, ◌==◌}
use Rattle.scale.specs.Model.{Model}
use Rattle.lines.specs.declared.Line.{Line}
use Rattle.ctl.specs.Formulas.{Plan}
use Rattle.sheet.specs.Lines.{Fitting}
use Rattle.sheet.specs.Sheet.{Call, arrow, mark, line, text, settle, read_at, reopen, Verdict, refuse, accept, Judged}

-- A call, and how much of the memory it is lent.
pub record Event : Type 0 where
  pub call : Call
  pub values_lent : ℕ
  pub words_lent : ℕ

-- The numbers of stages and of marks, an entry for each arrow and for each mark at each stage, and the lines.
pub record Account (V : Type 0) : Type 0 where
  pub stages : ℕ
  pub marks : ℕ
  pub arrows : ℕ → ℕ → V
  pub marked : ℕ → ℕ → V
  pub lines : List Line

-- The plan of the entries accepted so far.
abbrev pub plan : {V : Type 0} → Account V → Plan V
plan x = record { stages = x.stages; arrow = x.arrows; mark = x.marked }

-- Opening makes every entry lowest and the list empty.
abbrev pub opening : {V : Type 0} → Model V → ℕ → ℕ → Account V
opening m n a = record { stages = n; marks = a; arrows = λ s t. m.lowest; marked = λ s k. m.lowest; lines = [] }

-- The verdict on a call, by its arguments and the account so far.
abbrev pub Judges : {V : Type 0} → Model V → Account V → Event → Verdict → Type 0
Judges m x e = Judged m x.stages x.marks e.values_lent e.words_lent (length x.lines) (Fitting x.marks x.lines) e.call

-- an entry set to another
abbrev pub entered : {V : Type 0} → ℕ → ℕ → V → (ℕ → ℕ → V) → ℕ → ℕ → V
entered s t v old i j = cond (i == s && j == t) v (old i j)

-- What an accepted call changes, with the lines that it appends.
abbrev pub taken : {V : Type 0} → Model V → Account V → Call → List Line → Account V
taken m x (arrow s t v) new = record { stages = x.stages; marks = x.marks; arrows = entered s t (m.value v) x.arrows; marked = x.marked; lines = x.lines }
taken m x (mark s k v) new = record { stages = x.stages; marks = x.marks; arrows = x.arrows; marked = entered s k (m.value v) x.marked; lines = x.lines }
taken m x (line w) new = record { stages = x.stages; marks = x.marks; arrows = x.arrows; marked = x.marked; lines = x.lines ++ new }
taken m x (text ns bs) new = record { stages = x.stages; marks = x.marks; arrows = x.arrows; marked = x.marked; lines = x.lines ++ new }
taken m x settle new = x
taken m x (read_at k s) new = x
taken m x reopen new = x

-- A refused call changes nothing.
abbrev pub onward : {V : Type 0} → Model V → Account V → Call → Verdict → Account V
onward m x c (refuse r) = x
onward m x c (accept new) = taken m x c new

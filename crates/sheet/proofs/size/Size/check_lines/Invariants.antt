use Rattle.std.proofs.Common.{ℕ, ◌<◌, get_or}
use Rattle.lines.specs.Word.{WellFormed}
use Rattle.sheet.proofs.size.Size.check_lines.Given as goal

-- the words so far say lines
abbrev pub invariant-loop-k : goal.invariant-loop-k
invariant-loop-k l = (i : ℕ) → i < l.k → WellFormed i l.self.marks (get_or l.words i 0)

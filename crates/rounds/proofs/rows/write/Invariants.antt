use Rattle.std.proofs.Common.{ℕ, ◌<◌, get_or}
use Rattle.rounds.proofs.rows.write.Given as goal

-- the entries so far are written
abbrev pub invariant-loop-i : goal.invariant-loop-i
invariant-loop-i g l = (k : ℕ) (d : _) → k < l.i → goal.F-post g l.entry k (get_or l.row k d)

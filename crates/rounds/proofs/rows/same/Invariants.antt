use Rattle.std.proofs.Common.{◌≡◌, ℕ, ◌<◌, length}
use Rattle.ctl.specs.Operations.{ops_of}
use Rattle.ctl.specs.Computed.{at}
use Rattle.rounds.proofs.rows.same.Given as goal

-- the entries so far are the same
abbrev pub invariant-loop-u : goal.invariant-loop-u
invariant-loop-u g l =
    let o = ops_of (g.L.Scale.model l.logic) (g.L.Logic.opposes l.logic) (g.L.Logic.partners l.logic) in
    (i : ℕ) → i < length l.yielded → at o l.x i ≡ at o l.y i

use Rattle.std.proofs.Common.{◌≡◌, ◌+◌, ◌*◌, length, get_or}
use Rattle.ctl.specs.Operations.{ops_of}
use Rattle.ctl.specs.Computed.{at}
use Rattle.ctl.specs.Values.{joined}
use Rattle.rounds.proofs.rows.Given.ex.Given as goal

-- the join over the arrows so far
abbrev pub invariant-loop-arrow : goal.invariant-loop-arrow
invariant-loop-arrow g l =
    let x = l.self.logic.now in
    let o = ops_of (g.L.Scale.model x) (g.L.Logic.opposes x) (g.L.Logic.partners x) in
    l.sum ≡ joined o (length l.yielded) (λ t. o.meet (get_or l.self.values.now (l.i * l.self.stages + t) o.lowest) (at o l.row t))

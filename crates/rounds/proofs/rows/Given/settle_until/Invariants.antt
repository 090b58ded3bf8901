use Rattle.std.proofs.Common.{◌-◌}
use Rattle.ctl.specs.Operations.{ops_of}
use Rattle.rounds.proofs.Turns.{SoFar}
use Rattle.rounds.proofs.rows.Given.settle_until.Given as goal

-- `count` rounds so far, each of which changed something
abbrev pub invariant-rounds : goal.invariant-rounds
invariant-rounds g l =
    let x = l.self.logic.now in
    SoFar (ops_of (g.L.Scale.model x) (g.L.Logic.opposes x) (g.L.Logic.partners x)) l.self.stages l.self.marks l.self.values.now l.until l.count l.row

-- the stages less the changing rounds so far
abbrev pub decreases-rounds : goal.decreases-rounds
decreases-rounds g l = l.self.stages - l.count

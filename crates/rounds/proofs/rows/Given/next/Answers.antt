use Rattle.ctl.specs.Operations.{ops_of}
use Rattle.rounds.proofs.Turns.{next_all}
use Rattle.rounds.proofs.rows.Given.next.Goals as goal

pub returns-in-All : goal.returns-in-All
returns-in-All g c =
    let d = c.args.self.now in let x = d.logic.now in
    let o = ops_of (g.L.Scale.model x) (g.L.Logic.opposes x) (g.L.Logic.partners x) in
    next_all o d.stages d.marks d.values.now c.args.paths c.args.row.now c.args.turned.now c.args.i c.in-All.is c.requires.turned
    c.ex-fails.result c.ex-some.result c.opposite.result c.meet.result c.ex-fails.ensures c.ex-some.ensures c.opposite.ensures c.meet.ensures

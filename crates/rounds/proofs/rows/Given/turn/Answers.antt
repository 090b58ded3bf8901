use Rattle.std.proofs.Common.{◌≡◌, ℕ, ◌<◌, ◌∙◌, arith, rules}
use Rattle.ctl.specs.Operations.{ops_of}
use Rattle.ctl.specs.Computed.{at}
use Rattle.ctl.proofs.Cuts.{sound}
use Rattle.rounds.proofs.Turns.{turned_all}
use Rattle.rounds.proofs.rows.Given.turn.Goals as goal

pub returns-in-All : goal.returns-in-All
returns-in-All g c =
    let d = c.args.self.now in let x = d.logic.now in let m = g.L.Scale.model x in let opp = g.L.Logic.opposes x in let par = g.L.Logic.partners x in
    let o = ops_of m opp par in
    let each : (i : ℕ) → i < d.stages → at o c.write.new.row i ≡ o.opposite (at o c.args.row.now i) = λ i h. let k = c.write.ensures i m.lowest (omega (arith, h, c.requires.size)) in search rules in
    turned_all o (sound m opp par (g.met.L.Scale.lawful x) (g.met.L.Logic.opposed x)) d.stages c.args.paths c.args.row.now c.write.new.row c.in-All.is (c.write.auto.row ∙ c.requires.size) each

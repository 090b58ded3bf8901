use Rattle.std.proofs.Common.{sym, refl, ◌∙◌, subst, arith, rules}
use Rattle.ctl.specs.Operations.{ops_of}
use Rattle.ctl.specs.Computed.{at}
use Rattle.ctl.specs.Values.{Same}
use Rattle.ctl.proofs.Cuts.{sound}
use Rattle.steps.specs.declared.Side.TheVariants.{At, Not}
use Rattle.steps.specs.Steps.{side_of}
use Rattle.rounds.specs.Rows.{Prepared}
use Rattle.rounds.proofs.Lines.{side_row}
use Rattle.rounds.proofs.rows.Given.prepare.Goals as goal

pub returns-in-Ex : goal.returns-in-Ex
returns-in-Ex g c =
    let d = c.args.self.now in let x = d.logic.now in let m = g.L.Scale.model x in let opp = g.L.Logic.opposes x in let par = g.L.Logic.partners x in
    let o = ops_of m opp par in let n = d.stages in let a = d.marks in let s = d.values.now in
    let ys = c.write.new.row in
    let each : Same n (at o ys) (side_of o s (At c.in-Ex.place)) = λ i h. let k = c.write.ensures i m.lowest (omega (arith, h, c.requires.work_size)) in search rules in
    subst (λ q. Prepared o n a s q 0 ys) (sym c.in-Ex.is)
    (refl, side_row o (sound m opp par (g.met.L.Scale.lawful x) (g.met.L.Logic.opposed x)) n s ys (At c.in-Ex.place) (c.write.auto.row ∙ c.requires.work_size) each, each)

pub returns-in-Ax : goal.returns-in-Ax
returns-in-Ax g c =
    let d = c.args.self.now in let x = d.logic.now in let m = g.L.Scale.model x in let opp = g.L.Logic.opposes x in let par = g.L.Logic.partners x in
    let o = ops_of m opp par in let n = d.stages in let a = d.marks in let s = d.values.now in
    let ys = c.write-in-Ax.new.row in
    let each : Same n (at o ys) (side_of o s (Not c.in-Ax.place)) = λ i h. let k = c.write-in-Ax.ensures i m.lowest (omega (arith, h, c.requires.work_size)) in search rules in
    subst (λ q. Prepared o n a s q 0 ys) (sym c.in-Ax.is)
    (refl, side_row o (sound m opp par (g.met.L.Scale.lawful x) (g.met.L.Logic.opposed x)) n s ys (Not c.in-Ax.place) (c.write-in-Ax.auto.row ∙ c.requires.work_size) each, each)

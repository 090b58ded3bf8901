use Rattle.std.proofs.Common.{sym, ◌∙◌, subst, arith, rules}
use Rattle.ctl.specs.Operations.{ops_of}
use Rattle.ctl.specs.Computed.{at}
use Rattle.ctl.specs.Values.{Same, ex}
use Rattle.steps.specs.Stretch.{plan_of}
use Rattle.steps.specs.Steps.{RowOf}
use Rattle.rounds.specs.Rows.{Prepared}
use Rattle.rounds.proofs.Entries.{opposite_read}
use Rattle.rounds.proofs.Lines.{ax_row}
use Rattle.rounds.proofs.Turns.{ex_same}
use Rattle.rounds.proofs.rows.Given.finish.Goals as goal

pub returns-in-Mark : goal.returns-in-Mark
returns-in-Mark g c =
    let d = c.args.self.now in let x = d.logic.now in let m = g.L.Scale.model x in let opp = g.L.Logic.opposes x in let par = g.L.Logic.partners x in
    let o = ops_of m opp par in let n = d.stages in let a = d.marks in let s = d.values.now in
    subst (λ q. RowOf o (plan_of o n a s) s q (at o c.write.new.row)) (sym c.in-Mark.is)
    (λ i h. let k = c.write.ensures i m.lowest (omega (arith, h, c.requires.row_size)) in search rules)

pub returns-in-Copied : goal.returns-in-Copied
returns-in-Copied g c =
    let d = c.args.self.now in let x = d.logic.now in let m = g.L.Scale.model x in let opp = g.L.Logic.opposes x in let par = g.L.Logic.partners x in
    let o = ops_of m opp par in let n = d.stages in let a = d.marks in let s = d.values.now in
    subst (λ q. RowOf o (plan_of o n a s) s q (at o c.write-in-Copied.new.row)) (sym c.in-Copied.is)
    (λ i h. let k = c.write-in-Copied.ensures i m.lowest (omega (arith, h, c.requires.row_size)) in search rules)

pub returns-in-And : goal.returns-in-And
returns-in-And g c =
    let d = c.args.self.now in let x = d.logic.now in let m = g.L.Scale.model x in let opp = g.L.Logic.opposes x in let par = g.L.Logic.partners x in
    let o = ops_of m opp par in let n = d.stages in let a = d.marks in let s = d.values.now in
    subst (λ q. RowOf o (plan_of o n a s) s q (at o c.write-in-And.new.row)) (sym c.in-And.is)
    (λ i h. let k = c.write-in-And.ensures i m.lowest (omega (arith, h, c.requires.row_size)) in search rules)

pub returns-in-Or : goal.returns-in-Or
returns-in-Or g c =
    let d = c.args.self.now in let x = d.logic.now in let m = g.L.Scale.model x in let opp = g.L.Logic.opposes x in let par = g.L.Logic.partners x in
    let o = ops_of m opp par in let n = d.stages in let a = d.marks in let s = d.values.now in
    subst (λ q. RowOf o (plan_of o n a s) s q (at o c.write-in-Or.new.row)) (sym c.in-Or.is)
    (λ i h. let k = c.write-in-Or.ensures i m.lowest (omega (arith, h, c.requires.row_size)) in search rules)

pub returns-in-Ex : goal.returns-in-Ex
returns-in-Ex g c =
    let d = c.args.self.now in let x = d.logic.now in let m = g.L.Scale.model x in let opp = g.L.Logic.opposes x in let par = g.L.Logic.partners x in
    let o = ops_of m opp par in let n = d.stages in let a = d.marks in let s = d.values.now in
    let w = subst (λ q. Prepared o n a s q c.requires.prepared.0 c.args.work.now) c.in-Ex.is c.requires.prepared.1 in
    let each : Same n (at o c.write-in-Ex.new.row) (ex o (plan_of o n a s) (at o c.args.work.now)) = λ i h. let k = c.write-in-Ex.ensures i m.lowest (omega (arith, h, c.requires.row_size)) in search rules in
    subst (λ q. RowOf o (plan_of o n a s) s q (at o c.write-in-Ex.new.row)) (sym c.in-Ex.is) (λ i h. each i h ∙ ex_same o (plan_of o n a s) _ _ w.2 i)

pub returns-in-Ax : goal.returns-in-Ax
returns-in-Ax g c =
    let d = c.args.self.now in let x = d.logic.now in let m = g.L.Scale.model x in let opp = g.L.Logic.opposes x in let par = g.L.Logic.partners x in
    let o = ops_of m opp par in let n = d.stages in let a = d.marks in let s = d.values.now in
    let w = subst (λ q. Prepared o n a s q c.requires.prepared.0 c.args.work.now) c.in-Ax.is c.requires.prepared.1 in
    let each : Same n (at o c.write-in-Ax.new.row) (λ i. o.opposite (ex o (plan_of o n a s) (at o c.args.work.now) i)) = λ i h. let k = c.write-in-Ax.ensures i m.lowest (omega (arith, h, c.requires.row_size)) in search rules in
    subst (λ q. RowOf o (plan_of o n a s) s q (at o c.write-in-Ax.new.row)) (sym c.in-Ax.is)
    (ax_row o (opposite_read m opp par (g.met.L.Scale.lawful x) (g.met.L.Logic.opposed x)) n a s c.in-Ax.field-0 c.args.work.now _ w.2 each)

pub returns-in-Dual : goal.returns-in-Dual
returns-in-Dual g c =
    let d = c.args.self.now in let x = d.logic.now in let m = g.L.Scale.model x in let opp = g.L.Logic.opposes x in let par = g.L.Logic.partners x in
    let o = ops_of m opp par in let n = d.stages in let a = d.marks in let s = d.values.now in
    let w = subst (λ q. Prepared o n a s q c.requires.prepared.0 c.args.work.now) c.in-Dual.is c.requires.prepared.1 in
    subst (λ q. RowOf o (plan_of o n a s) s q (at o c.write-in-Dual.new.row)) (sym c.in-Dual.is)
    (at o c.args.work.now, w.least, λ i h. let k = c.write-in-Dual.ensures i m.lowest (omega (arith, h, c.requires.row_size)) in search rules)

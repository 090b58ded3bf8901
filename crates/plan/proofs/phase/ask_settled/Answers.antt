use Rattle.std.proofs.Common.{[], refl, rules}
use Rattle.sheet.specs.Logics.{logic_of}
use Rattle.sheet.specs.Sheet.{settled_on, settled, read_at}
use Rattle.plan.proofs.Leads.{read_first, leads_refused}
use Rattle.plan.proofs.phase.ask_settled.Goals as goal

pub returns-in_err-number : goal.returns-in_err-number
returns-in_err-number g c =
    let logic = c.args.logic.now in
    let l = logic_of (g.L.Scale.model logic) (g.L.Logic.opposes logic) (g.L.Logic.partners logic) in
    let desk = c.args.desk.now in
    let w = settled_on c.args.settled desk.stretch.items desk.lines in
    leads_refused l w w (read_at c.args.line c.args.stage) [] settled c.in_err-number.field-0.0 desk.outputs.items desk.outputs.items desk.stretch.items desk.lines
    desk.long (search rules) c.in_err-number.ensures refl c.from_residual.result c.from_residual.ensures.1

pub returns : goal.returns
returns g c =
    let logic = c.args.logic.now in
    let l = logic_of (g.L.Scale.model logic) (g.L.Logic.opposes logic) (g.L.Logic.partners logic) in
    let desk = c.args.desk.now in
    let w = settled_on c.args.settled desk.stretch.items desk.lines in
    let e = c.in_ok-number.ensures in
    (read_first l w c.args.line c.args.stage c.in_ok-number.number e.0 desk.outputs.items c.push.new.self.items desk.long (search rules) e.1 e.2 c.in_ok-push.ensures.items, refl)

use Rattle.std.proofs.Common.{[], refl, rules}
use Rattle.sheet.specs.Logics.{logic_of}
use Rattle.sheet.specs.Sheet.{draft_on, drafting}
use Rattle.plan.specs.Calls.{entry_call}
use Rattle.plan.proofs.Leads.{entry_leads, leads_refused}
use Rattle.plan.proofs.phase.enter_draft.Goals as goal

pub returns-in_err-enter : goal.returns-in_err-enter
returns-in_err-enter g c =
    let logic = c.args.logic.now in
    let l = logic_of (g.L.Scale.model logic) (g.L.Logic.opposes logic) (g.L.Logic.partners logic) in
    let desk = c.args.desk.now in
    let to = c.enter.new.desk in
    let w = draft_on c.args.draft desk.stretch.items desk.lines in
    let u = draft_on c.enter.new.draft to.stretch.items to.lines in
    leads_refused l w u (entry_call c.args.entry) [] drafting c.in_err-enter.field-0.0 desk.outputs.items to.outputs.items to.stretch.items to.lines
    desk.long (search rules) c.in_err-enter.ensures.step c.in_err-enter.ensures.printed c.from_residual.result c.from_residual.ensures.1

pub returns : goal.returns
returns g c =
    let logic = c.args.logic.now in
    let l = logic_of (g.L.Scale.model logic) (g.L.Logic.opposes logic) (g.L.Logic.partners logic) in
    let desk = c.args.desk.now in
    let to = c.enter.new.desk in
    let w = draft_on c.args.draft desk.stretch.items desk.lines in
    let u = draft_on c.enter.new.draft to.stretch.items to.lines in
    (entry_leads l w u c.args.entry desk.outputs.items to.outputs.items desk.long (search rules) c.in_ok-enter.ensures.step c.in_ok-enter.ensures.printed, refl)

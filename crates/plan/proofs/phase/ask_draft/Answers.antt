use Rattle.std.proofs.Common.{[], ◌∷◌, rules}
use Rattle.sheet.specs.Logics.{logic_of}
use Rattle.sheet.specs.Sheet.{draft_on, settled_on, settle, settled, read_at, rounds}
use Rattle.plan.proofs.Leads.{leads_first, refused_first, rounds_accepted}
use Rattle.plan.proofs.phase.ask_draft.Goals as goal

pub returns-in_ok-push-in-Ok : goal.returns-in_ok-push-in-Ok
returns-in_ok-push-in-Ok g c =
    let logic = c.args.logic.now in
    let l = logic_of (g.L.Scale.model logic) (g.L.Logic.opposes logic) (g.L.Logic.partners logic) in
    let desk = c.args.desk.now in
    let at = c.settle.new.desk in
    let to = c.ask_settled.new.desk in
    let w = draft_on c.args.draft desk.stretch.items desk.lines in
    let v = settled_on c.in-Ok.settled at.stretch.items at.lines in
    leads_first l w v settle (read_at c.args.line c.args.stage ∷ []) settled (rounds c.in-Ok.rounds)
    desk.outputs.items c.push.new.self.items to.outputs.items to.stretch.items to.lines
    desk.long (search rules) (rounds_accepted c.in-Ok.rounds) c.in-Ok.ensures.step (search rules) c.ask_settled.result c.ask_settled.ensures

pub returns-in-Err : goal.returns-in-Err
returns-in-Err g c =
    let logic = c.args.logic.now in
    let l = logic_of (g.L.Scale.model logic) (g.L.Logic.opposes logic) (g.L.Logic.partners logic) in
    let desk = c.args.desk.now in
    let at = c.settle.new.desk in
    let w = draft_on c.args.draft desk.stretch.items desk.lines in
    let u = draft_on c.in-Err.field-0-0 at.stretch.items at.lines in
    (u, refused_first l w u settle (read_at c.args.line c.args.stage ∷ []) c.in-Err.why desk.outputs.items at.outputs.items desk.long (search rules) c.in-Err.ensures.step c.in-Err.ensures.printed)

use Rattle.std.proofs.Common.{[], ◌∷◌, Some, subst, rules}
use Rattle.words.specs.declared.kind.Kind.TheVariants.{Enter, Ask}
use Rattle.sheet.specs.Logics.{logic_of}
use Rattle.sheet.specs.Sheet.{Step, draft_on, settled_on, drafting, settled, settle, read_at, reopen, done}
use Rattle.plan.specs.declared.phase.Phase.TheVariants.{Draft, Settled}
use Rattle.plan.specs.Calls.{entry_call, enters, reopens, settles, reads}
use Rattle.plan.proofs.Leads.{leads_first, word_done_at, done_accepted}
use Rattle.plan.proofs.phase.Phase.step.Goals as goal

pub returns-in-Draft-Some-Enter : goal.returns-in-Draft-Some-Enter
returns-in-Draft-Some-Enter g c =
    let logic = c.args.logic.now in
    let l = logic_of (g.L.Scale.model logic) (g.L.Logic.opposes logic) (g.L.Logic.partners logic) in
    let desk = c.args.desk.now in
    let to = c.enter_draft.new.desk in
    let at = c.in-Draft-Some-Enter in
    word_done_at l c.args.self (Draft at.draft) desk.stretch.items to.stretch.items desk.lines to.lines
    c.args.kind (Some (Enter at.entry)) (entry_call at.entry ∷ []) drafting desk.outputs.items to.outputs.items
    (search rules) (search rules) enters c.enter_draft.result c.enter_draft.ensures

pub returns-in-Settled-Some-Enter : goal.returns-in-Settled-Some-Enter
returns-in-Settled-Some-Enter g c =
    let logic = c.args.logic.now in
    let l = logic_of (g.L.Scale.model logic) (g.L.Logic.opposes logic) (g.L.Logic.partners logic) in
    let desk = c.args.desk.now in
    let to = c.enter_draft-in-Settled-Some-Enter.new.desk in
    let at = c.in-Settled-Some-Enter in
    let cs = entry_call at.entry ∷ [] in
    let w = settled_on at.settled desk.stretch.items desk.lines in
    let v = draft_on c.reopen-draft.result desk.stretch.items desk.lines in
    let r = c.enter_draft-in-Settled-Some-Enter.result in
    word_done_at l c.args.self (Settled at.settled) desk.stretch.items to.stretch.items desk.lines to.lines
    c.args.kind (Some (Enter at.entry)) (reopen ∷ cs) drafting desk.outputs.items to.outputs.items
    (search rules) (search rules) reopens r
    (leads_first l w v reopen cs drafting done desk.outputs.items desk.outputs.items to.outputs.items to.stretch.items to.lines
    desk.long (search rules) done_accepted
    (subst (λ s. Step l (settled_on at.settled s desk.lines) reopen done (draft_on c.reopen-draft.result s desk.lines)) c.as_slice.ensures.value c.reopen-draft.ensures.step)
    (search rules) r c.enter_draft-in-Settled-Some-Enter.ensures)

pub returns-in-Draft-Some-Ask : goal.returns-in-Draft-Some-Ask
returns-in-Draft-Some-Ask g c =
    let logic = c.args.logic.now in
    let l = logic_of (g.L.Scale.model logic) (g.L.Logic.opposes logic) (g.L.Logic.partners logic) in
    let desk = c.args.desk.now in
    let to = c.ask_draft.new.desk in
    let at = c.in-Draft-Some-Ask in
    word_done_at l c.args.self (Draft at.draft) desk.stretch.items to.stretch.items desk.lines to.lines
    c.args.kind (Some (Ask at.line at.stage)) (settle ∷ read_at at.line at.stage ∷ []) settled desk.outputs.items to.outputs.items
    (search rules) (search rules) settles c.ask_draft.result c.ask_draft.ensures

pub returns-in-Settled-Some-Ask : goal.returns-in-Settled-Some-Ask
returns-in-Settled-Some-Ask g c =
    let logic = c.args.logic.now in
    let l = logic_of (g.L.Scale.model logic) (g.L.Logic.opposes logic) (g.L.Logic.partners logic) in
    let desk = c.args.desk.now in
    let to = c.ask_settled.new.desk in
    let at = c.in-Settled-Some-Ask in
    word_done_at l c.args.self (Settled at.settled) desk.stretch.items to.stretch.items desk.lines to.lines
    c.args.kind (Some (Ask at.line at.stage)) (read_at at.line at.stage ∷ []) settled desk.outputs.items to.outputs.items
    (search rules) (search rules) reads c.ask_settled.result c.ask_settled.ensures

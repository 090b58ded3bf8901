use Rattle.sheet.specs.Logics.{logic_of}
use Rattle.sheet.specs.Sheet.{text, draft_on}
use Rattle.sheet.proofs.Calls.{told, answers}
use Rattle.sheet.proofs.Texts.{text_stopped, text_refused, text_done}
use Rattle.sheet.proofs.state.Draft.text.Goals as goal

pub returns-in_err-check_lent : goal.returns-in_err-check_lent
returns-in_err-check_lent g c =
    let x = c.args.logic.now in let m = g.L.Scale.model x in let opp = g.L.Logic.opposes x in let par = g.L.Logic.partners x in
    let d = c.args.self.now in let s = c.args.stretch.now in let w = draft_on d s c.args.words.now in let call = text c.args.names.now c.args.formula.now in
    let st = answers (logic_of m opp par) w call _ _ w c.from_residual.ensures.1
    (text_stopped (logic_of m opp par) d s c.args.words.now c.args.names.now c.args.formula.now c.in_err-check_lent.field-0.0 c.in_err-check_lent.ensures) in
    record { step = st; law = told m opp par (g.met.L.Scale.lawful x) (g.met.L.Logic.opposed x) w call _ _ st }

pub returns-in_err-self : goal.returns-in_err-self
returns-in_err-self g c =
    let x = c.args.logic.now in let m = g.L.Scale.model x in let opp = g.L.Logic.opposes x in let par = g.L.Logic.partners x in
    let d = c.args.self.now in let s = c.args.stretch.now in let w = draft_on d s c.args.words.now in let call = text c.args.names.now c.args.formula.now in
    let st = answers (logic_of m opp par) w call _ _ (draft_on d s c.append.new.words) c.from_residual-in_err-self.ensures.1
    (text_refused (logic_of m opp par) d s c.args.words.now c.args.names.now c.args.formula.now c.in_ok-check_lent.ensures c.in_err-self.field-0.0 c.append.new.words c.in_err-self.ensures.outcome) in
    record { step = st; law = told m opp par (g.met.L.Scale.lawful x) (g.met.L.Logic.opposed x) w call _ _ st }

pub returns : goal.returns
returns g c =
    let x = c.args.logic.now in let m = g.L.Scale.model x in let opp = g.L.Logic.opposes x in let par = g.L.Logic.partners x in
    let d = c.args.self.now in let s = c.args.stretch.now in let w = draft_on d s c.args.words.now in let call = text c.args.names.now c.args.formula.now in
    let st = text_done (logic_of m opp par) d s c.args.words.now c.args.names.now c.args.formula.now c.in_ok-check_lent.ensures c.in_ok-self.field-0 c.append.new.words c.in_ok-self.ensures.outcome in
    record { step = st; law = told m opp par (g.met.L.Scale.lawful x) (g.met.L.Logic.opposed x) w call _ _ st }

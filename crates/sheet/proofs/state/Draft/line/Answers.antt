use Rattle.std.proofs.Common.{◌≡◌, ℕ, ◌+◌, ◌<◌, [], ◌∷◌, set, sym, refl, ap, ◌∙◌, subst, inl, inr, arith}
use Rattle.lines.specs.Word.{FitsAt, WellFormed}
use Rattle.formula.specs.Tells.{held}
use Rattle.sheet.specs.declared.state.Refusal.TheVariants.{Full}
use Rattle.sheet.specs.Logics.{logic_of}
use Rattle.sheet.specs.Sheet.{line, done, refuse, accept, draft_on, with_words}
use Rattle.sheet.specs.Refusals.{text_refusal}
use Rattle.sheet.proofs.Calls.{told, refuses, answers, does}
use Rattle.sheet.proofs.Checks.{lined, lent_judges, rest_judges}
use Rattle.sheet.proofs.state.Draft.line.Goals as goal

pub returns-in_err-check_lent : goal.returns-in_err-check_lent
returns-in_err-check_lent g c =
    let x = c.args.logic.now in let m = g.L.Scale.model x in let opp = g.L.Logic.opposes x in let par = g.L.Logic.partners x in
    let d = c.args.self.now.size in let w = draft_on c.args.self.now c.args.stretch.now c.args.words.now in let call = line c.args.word in
    let judged = lent_judges (logic_of m opp par) w call tt (lined (held d.lines) d.marks c.args.word) (λ v j. j) _ c.in_err-check_lent.ensures in
    let st = answers (logic_of m opp par) w call _ _ w c.from_residual.ensures.1 (refuses (logic_of m opp par) w call _ tt judged) in
    record { step = st; law = told m opp par (g.met.L.Scale.lawful x) (g.met.L.Logic.opposed x) w call _ _ st }

pub returns-then-count-ge-MOST_LINES : goal.returns-then-count-ge-MOST_LINES
returns-then-count-ge-MOST_LINES g c =
    let x = c.args.logic.now in let m = g.L.Scale.model x in let opp = g.L.Logic.opposes x in let par = g.L.Logic.partners x in
    let d = c.args.self.now.size in let w = draft_on c.args.self.now c.args.stretch.now c.args.words.now in let call = line c.args.word in
    let is = c.held-count.ensures in
    let judged = rest_judges (logic_of m opp par) w call tt (lined (held d.lines) d.marks c.args.word) (λ v j. j) (refuse Full) c.in_ok-check_lent.ensures (inl ((λ h. omega (arith, is)), refl)) in
    let st = refuses (logic_of m opp par) w call Full tt judged in
    record { step = st; law = told m opp par (g.met.L.Scale.lawful x) (g.met.L.Logic.opposed x) w call _ _ st }

pub returns-in_err-read : goal.returns-in_err-read
returns-in_err-read g c =
    let x = c.args.logic.now in let m = g.L.Scale.model x in let opp = g.L.Logic.opposes x in let par = g.L.Logic.partners x in
    let d = c.args.self.now.size in let w = draft_on c.args.self.now c.args.stretch.now c.args.words.now in let call = line c.args.word in
    let is = c.held-count.ensures in let few : held d.lines < 64 = omega (arith, is) in
    let P : ℕ → Type 0 = λ k. WellFormed k d.marks c.args.word in
    let wrong = c.in_err-read.ensures.exact in
    let judged = rest_judges (logic_of m opp par) w call tt (lined (held d.lines) d.marks c.args.word) (λ v j. j) (refuse (text_refusal c.in_err-read.field-0.0)) c.in_ok-check_lent.ensures
    (inr (few, inl ((λ h. wrong.1 (subst P (sym is) h)), ap (λ e. refuse (text_refusal e)) wrong.0))) in
    let st = answers (logic_of m opp par) w call _ _ w c.from_residual-in_err-read.ensures.1 (refuses (logic_of m opp par) w call _ tt judged) in
    record { step = st; law = told m opp par (g.met.L.Scale.lawful x) (g.met.L.Logic.opposed x) w call _ _ st }

pub returns : goal.returns
returns g c =
    let x = c.args.logic.now in let m = g.L.Scale.model x in let opp = g.L.Logic.opposes x in let par = g.L.Logic.partners x in
    let d = c.args.self.now.size in let ws = c.args.words.now in let w = draft_on c.args.self.now c.args.stretch.now ws in let call = line c.args.word in
    let r = c.held-count.result in let is = c.held-count.ensures in let few : held d.lines < 64 = omega (arith, is) in
    let said = c.in_ok-read.ensures.exact in let new = c.in_ok-read.field-0 in
    let P : ℕ → Type 0 = λ k. FitsAt k d.marks new in
    let judged = rest_judges (logic_of m opp par) w call tt (lined (held d.lines) d.marks c.args.word) (λ v j. j) (accept (new ∷ [])) c.in_ok-check_lent.ensures
    (inr (few, inr ((new, said.0, subst P is said.1), refl))) in
    let more : held (r + 1) ≡ held d.lines + 1 = omega (arith, is, few) in
    let same = ap (λ k. with_words k (set ws r c.args.word) w) more
    ∙ ap (λ k. with_words (held d.lines + 1) (set ws k c.args.word) w) is
    ∙ ap (λ k. with_words (held d.lines + 1) (set ws (held d.lines) k) w) (sym said.0) in
    let u = draft_on (record { size = record { stages = d.stages; marks = d.marks; lines = r + 1 } }) c.args.stretch.now (set ws r c.args.word) in
    let st = does (logic_of m opp par) w call (new ∷ []) done u tt judged (refl, same) in
    record { step = st; law = told m opp par (g.met.L.Scale.lawful x) (g.met.L.Logic.opposed x) w call done _ st }

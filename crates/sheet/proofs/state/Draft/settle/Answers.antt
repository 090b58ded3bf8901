use Rattle.std.proofs.Common.{◌≡◌, [], Ok, is_ok, sym, refl, ap, ◌∙◌, rules}
use Rattle.std.specs.Result.{MatchResult, IsErrAnd}
use Rattle.formula.specs.Tells.{held}
use Rattle.sheet.specs.Logics.{logic_of}
use Rattle.sheet.specs.Sheet.{settle, rounds, draft_on, settled_on}
use Rattle.sheet.proofs.Agree.{passed}
use Rattle.sheet.proofs.Calls.{told, JudgedOn, does, handed_back, beside_draft, check_passed}
use Rattle.sheet.proofs.LinesSettled.{all_counted}
use Rattle.sheet.proofs.state.Draft.settle.Goals as goal

pub returns-in_err-map_err : goal.returns-in_err-map_err
returns-in_err-map_err g c =
    let x = c.args.logic.now in let m = g.L.Scale.model x in let opp = g.L.Logic.opposes x in let par = g.L.Logic.partners x in
    let l = logic_of m opp par in let w = draft_on c.args.self c.args.stretch.now c.args.words.now in
    let cases : MatchResult c.check_settle.result (λ u. c.map_err.result ≡ Ok u) (λ e. IsErrAnd c.map_err.result (λ y. y ≡ (c.args.self, e))) = search rules in
    let why = beside_draft (JudgedOn l w settle) c.args.self c.check_settle.result c.map_err.result c.in_err-map_err.field-0.0 c.check_settle.ensures cases c.in_err-map_err.was in
    let st = handed_back l c.args.self c.args.stretch.now c.args.words.now c.from_residual.result _ why.0 c.from_residual.ensures.1 why.1 why.2 in
    record { step = st; law = told m opp par (g.met.L.Scale.lawful x) (g.met.L.Logic.opposed x) w settle _ _ st }

pub returns : goal.returns
returns g c =
    let x = c.args.logic.now in let m = g.L.Scale.model x in let opp = g.L.Logic.opposes x in let par = g.L.Logic.partners x in
    let l = logic_of m opp par in let d = c.args.self.size in let s = c.args.stretch.now in let ws = c.args.words.now in
    let w = draft_on c.args.self s ws in
    let t = c.settle_lines-rounds.new.stretch in let r = c.settle_lines-rounds.result in
    let u = settled_on (record { size = d }) t ws in
    let judged = check_passed (JudgedOn l w settle) c.check_settle.result c.check_settle.ensures (sym c.map_err.ensures.variant ∙ ap is_ok c.in_ok-map_err.was) in
    let said = (passed (passed (passed (passed judged).1).1).1).0 in
    let filled = c.settle_lines-rounds.ensures said.0 said.1 in
    let st = does l w settle [] (rounds r) u tt judged (record {
      reported = r;
      answered = refl;
      state = refl;
      same_stages = refl;
      same_marks = refl;
      same_lines = refl;
      same_words = refl;
      same_length = c.settle_lines-rounds.auto.stretch;
      said = said.0;
      says = said.1;
      counts = all_counted l d.stages d.marks said.0 s (held d.lines) r t (sym said.1.all) filled;
      values = filled.values;
      valid = filled.valid;
      kept = filled.kept;
    }) in
    record { step = st; law = told m opp par (g.met.L.Scale.lawful x) (g.met.L.Logic.opposed x) w settle (rounds r) u st }

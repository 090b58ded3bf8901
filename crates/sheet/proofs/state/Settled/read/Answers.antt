use Rattle.std.proofs.Common.{[], get_or, refl, ap, ◌∙◌, arith}
use Rattle.std.proofs.lemmas.List.{get_or_read}
use Rattle.scale.specs.Model.{read}
use Rattle.formula.specs.Tells.{held}
use Rattle.sheet.specs.Logics.{logic_of}
use Rattle.sheet.specs.Sheet.{read_at, value, accepts, settled_on}
use Rattle.sheet.specs.Verdicts.{answer_placed}
use Rattle.sheet.proofs.Calls.{told, reads, refuses, does}
use Rattle.sheet.proofs.Checks.{lent_judges, rest_judges}
use Rattle.sheet.proofs.Lent.{answer_lies}
use Rattle.sheet.proofs.state.Settled.read.Goals as goal

pub returns-in_err-check_lent : goal.returns-in_err-check_lent
returns-in_err-check_lent g c =
    let x = c.args.logic.now in let m = g.L.Scale.model x in let opp = g.L.Logic.opposes x in let par = g.L.Logic.partners x in
    let d = c.args.self.now.size in let w = settled_on c.args.self.now c.args.stretch.now c.args.words.now in let call = read_at c.args.line c.args.stage in
    let judged = lent_judges (logic_of m opp par) w call tt (answer_placed d.stages (held d.lines) c.args.line c.args.stage (accepts [])) (λ v j. j) _ c.in_err-check_lent.ensures in
    let st = reads (logic_of m opp par) w call _ _ w c.from_residual.ensures.1 (refuses (logic_of m opp par) w call _ tt judged) in
    record { step = st; law = told m opp par (g.met.L.Scale.lawful x) (g.met.L.Logic.opposed x) w call _ _ st }

pub returns-in_err-place : goal.returns-in_err-place
returns-in_err-place g c =
    let x = c.args.logic.now in let m = g.L.Scale.model x in let opp = g.L.Logic.opposes x in let par = g.L.Logic.partners x in
    let d = c.args.self.now.size in let w = settled_on c.args.self.now c.args.stretch.now c.args.words.now in let call = read_at c.args.line c.args.stage in
    let judged = rest_judges (logic_of m opp par) w call tt (answer_placed d.stages (held d.lines) c.args.line c.args.stage (accepts [])) (λ v j. j) _ c.in_ok-check_lent.ensures c.in_err-place.ensures in
    let st = reads (logic_of m opp par) w call _ _ w c.from_residual-in_err-place.ensures.1 (refuses (logic_of m opp par) w call _ tt judged) in
    record { step = st; law = told m opp par (g.met.L.Scale.lawful x) (g.met.L.Logic.opposed x) w call _ _ st }

pub bounds-stretch-place : goal.bounds-stretch-place
bounds-stretch-place g c =
    answer_lies (g.L.Scale.model c.args.logic.now) _ _ _ _ c.in_ok-check_lent.ensures (held c.args.self.now.size.lines) c.args.line c.args.stage _ (omega arith) c.in_ok-place.ensures.0 c.in_ok-place.ensures.1

pub offset_bounds-stretch-place : goal.offset_bounds-stretch-place
offset_bounds-stretch-place g c =
    let h = answer_lies (g.L.Scale.model c.args.logic.now) _ _ _ _ c.in_ok-check_lent.ensures (held c.args.self.now.size.lines) c.args.line c.args.stage _ (omega arith) c.in_ok-place.ensures.0 c.in_ok-place.ensures.1 in
    omega (arith, h)

pub returns : goal.returns
returns g c =
    let x = c.args.logic.now in let m = g.L.Scale.model x in let opp = g.L.Logic.opposes x in let par = g.L.Logic.partners x in
    let s = c.args.stretch.now in let p = c.in_ok-place.place in
    let d = c.args.self.now.size in let w = settled_on c.args.self.now s c.args.words.now in let call = read_at c.args.line c.args.stage in
    let judged = rest_judges (logic_of m opp par) w call tt (answer_placed d.stages (held d.lines) c.args.line c.args.stage (accepts [])) (λ v j. j) _ c.in_ok-check_lent.ensures c.in_ok-place.ensures.0 in
    let h = answer_lies m _ _ _ _ c.in_ok-check_lent.ensures (held d.lines) c.args.line c.args.stage p (omega arith) c.in_ok-place.ensures.0 c.in_ok-place.ensures.1 in
    let there = get_or_read s p c.index-stretch-place.result h c.index-stretch-place.is m.lowest in
    let is = c.reading.ensures.is ∙ ap (read m) (there ∙ ap (λ q. get_or s q m.lowest) c.in_ok-place.ensures.1) in
    let st = does (logic_of m opp par) w call [] (value c.reading.result) w tt judged (ap value is, refl) in
    record { step = st; law = told m opp par (g.met.L.Scale.lawful x) (g.met.L.Logic.opposed x) w call _ _ st }

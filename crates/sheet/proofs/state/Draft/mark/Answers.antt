use Rattle.std.proofs.Common.{set, refl, ap, ◌∙◌}
use Rattle.sheet.specs.Layout.{mark_place}
use Rattle.sheet.specs.Logics.{logic_of}
use Rattle.sheet.specs.Sheet.{mark, done, draft_on, with_stretch}
use Rattle.sheet.specs.Verdicts.{mark_placed}
use Rattle.sheet.proofs.Calls.{told}
use Rattle.sheet.proofs.Checks.{before_mark, unlent, misplaced, valueless, entered}
use Rattle.sheet.proofs.Lent.{mark_lies}
use Rattle.sheet.proofs.state.Draft.mark.Goals as goal

pub returns-in_err-check_lent : goal.returns-in_err-check_lent
returns-in_err-check_lent g c =
    let x = c.args.logic.now in let m = g.L.Scale.model x in let opp = g.L.Logic.opposes x in let par = g.L.Logic.partners x in
    let d = c.args.self.now.size in let w = draft_on c.args.self.now c.args.stretch.now c.args.words.now in let call = mark c.args.stage c.args.mark c.args.number in
    let st = unlent (logic_of m opp par) w call c.args.number tt (mark_placed d.stages d.marks c.args.stage c.args.mark) (before_mark d.stages d.marks c.args.stage c.args.mark) (λ v j. j) _ _ c.from_residual.ensures.1 c.in_err-check_lent.ensures in
    record { step = st; law = told m opp par (g.met.L.Scale.lawful x) (g.met.L.Logic.opposed x) w call _ _ st }

pub returns-in_err-place : goal.returns-in_err-place
returns-in_err-place g c =
    let x = c.args.logic.now in let m = g.L.Scale.model x in let opp = g.L.Logic.opposes x in let par = g.L.Logic.partners x in
    let d = c.args.self.now.size in let w = draft_on c.args.self.now c.args.stretch.now c.args.words.now in let call = mark c.args.stage c.args.mark c.args.number in
    let st = misplaced (logic_of m opp par) w call c.args.number tt (mark_placed d.stages d.marks c.args.stage c.args.mark) (before_mark d.stages d.marks c.args.stage c.args.mark) (λ v j. j) _ _ c.from_residual-in_err-place.ensures.1
    c.in_ok-check_lent.ensures c.in_err-place.ensures in
    record { step = st; law = told m opp par (g.met.L.Scale.lawful x) (g.met.L.Logic.opposed x) w call _ _ st }

pub returns-in_err-stretch : goal.returns-in_err-stretch
returns-in_err-stretch g c =
    let x = c.args.logic.now in let m = g.L.Scale.model x in let opp = g.L.Logic.opposes x in let par = g.L.Logic.partners x in
    let d = c.args.self.now.size in let w = draft_on c.args.self.now c.args.stretch.now c.args.words.now in let call = mark c.args.stage c.args.mark c.args.number in
    let st = valueless (logic_of m opp par) w call c.args.number tt (mark_placed d.stages d.marks c.args.stage c.args.mark) (before_mark d.stages d.marks c.args.stage c.args.mark) (λ v j. j) _ _ c.from_residual-in_err-stretch.ensures.1
    c.in_ok-check_lent.ensures c.in_ok-place.ensures.0 c.value.result c.ok_or.result c.value.ensures c.ok_or.ensures.value c.in_err-stretch.was in
    record { step = st; law = told m opp par (g.met.L.Scale.lawful x) (g.met.L.Logic.opposed x) w call _ _ st }

pub returns : goal.returns
returns g c =
    let x = c.args.logic.now in let m = g.L.Scale.model x in let opp = g.L.Logic.opposes x in let par = g.L.Logic.partners x in
    let s = c.args.stretch.now in let v = c.in_ok-stretch.field-0 in
    let d = c.args.self.now.size in let w = draft_on c.args.self.now s c.args.words.now in let call = mark c.args.stage c.args.mark c.args.number in
    let st = entered (logic_of m opp par) w call c.args.number tt (mark_placed d.stages d.marks c.args.stage c.args.mark) (before_mark d.stages d.marks c.args.stage c.args.mark) (λ v j. j)
    c.in_ok-check_lent.ensures c.in_ok-place.ensures.0 c.value.result c.ok_or.result v c.value.ensures c.ok_or.ensures.value c.in_ok-stretch.was
    (with_stretch (set s c.in_ok-place.place v) w)
    (λ is. (refl, ap (λ p. with_stretch (set s p v) w) c.in_ok-place.ensures.1 ∙ ap (λ y. with_stretch (set s (mark_place d.stages d.marks c.args.stage c.args.mark) y) w) is)) in
    record { step = st; law = told m opp par (g.met.L.Scale.lawful x) (g.met.L.Logic.opposed x) w call done _ st }

pub bounds-stretch-place : goal.bounds-stretch-place
bounds-stretch-place g c = mark_lies (g.L.Scale.model c.args.logic.now) _ _ _ _ c.in_ok-check_lent.ensures c.args.stage c.args.mark _ c.in_ok-place.ensures.0 c.in_ok-place.ensures.1

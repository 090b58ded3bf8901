use Rattle.std.proofs.Common.{◌+◌, ◌*◌, [], ◌∷◌, length, take, drop, get_or, sym, ap, ◌∙◌, subst, ap₂, arith, rules}
use Rattle.std.proofs.lemmas.Iterator.{YieldsList-from_zip, YieldsList-from_slice}
use Rattle.std.proofs.lemmas.Iterator.Consumers.{YieldsList-turn}
use Rattle.std.proofs.lemmas.List.{get_or-take, get_or-drop, length-append}
use Rattle.ctl.specs.Operations.{ops_of, Valid}
use Rattle.ctl.specs.Computed.{at}
use Rattle.ctl.specs.Values.{joined}
use Rattle.rounds.proofs.Entries.{ex_more}
use Rattle.rounds.proofs.Zips.{zip_at, zip_short}
use Rattle.rounds.proofs.rows.Given.ex.Goals as goal

pub loop-arrow-preserved : goal.loop-arrow-preserved
loop-arrow-preserved g c =
    let d = c.args.self.now in let x = d.logic.now in let m = g.L.Scale.model x in let opp = g.L.Logic.opposes x in let par = g.L.Logic.partners x in
    let o = ops_of m opp par in let s = d.values.now in let row = c.args.row.now in let from = c.args.i * d.stages in let t = length c.loop-arrow.yielded in
    let road = YieldsList-from_zip (YieldsList-from_slice (take d.stages (drop from s)) (search rules)) (YieldsList-from_slice row (search rules)) in
    let turn = YieldsList-turn road c.loop-arrow.yielded c.loop-arrow.arrow-iterator c.loop-arrow.yielded_by c.next.result c.next.new.self (c.in-Some.arrow, c.in-Some.value) c.in-Some.is c.next.ensures.steps in
    let both = zip_at (take d.stages (drop from s)) row t c.in-Some.arrow.now c.in-Some.value.now m.lowest m.lowest turn.0 turn.1 in
    let many = zip_short (take d.stages (drop from s)) row in
    let arrow = both.0 ∙ get_or-take d.stages (drop from s) t m.lowest (omega (arith, turn.0, many, c.requires.row.size)) ∙ get_or-drop from s t m.lowest in
    let value = both.1 in
    ex_more m opp par (g.met.L.Scale.lawful x) (g.met.L.Logic.opposed x) t (λ t. o.meet (get_or s (from + t) o.lowest) (at o row t))
    c.loop-arrow.sum c.in-Some.arrow.now c.reading.result c.in-Some.value.now c.meet_values-along.result c.join_values-sum.result
    c.loop-arrow.invariant c.reading.ensures.is (subst (Valid o) (sym value) (c.requires.row.values t (omega (arith, turn.0, many))))
    (sym (ap₂ o.meet arrow value)) c.meet_values-along.ensures c.join_values-sum.ensures
    ∙ ap (λ k. joined o k (λ t. o.meet (get_or s (from + t) o.lowest) (at o row t))) (sym (length-append c.loop-arrow.yielded (_ ∷ [])))

use Rattle.std.proofs.Common.{◌≡◌, is_some, length, true, ◌∙◌, rules}
use Rattle.std.specs.Option.{MatchOption}
use Rattle.sheet.specs.Logics.{logic_of}
use Rattle.sheet.proofs.LinesSettled.{same_line, settled_as, settleable_line, count_taken}
use Rattle.sheet.proofs.size.Size.settle_line.Goals as goal

pub returns : goal.returns
returns g c = λ l e f.
    let x = c.args.logic.now in let m = g.L.Scale.model x in let d = c.args.self in
    let there : is_some c.settle_step.result ≡ true = c.settle_step.ensures.answer
    ∙ settleable_line m d.stages d.marks c.args.k (length c.args.stretch.now) c.in-Ok.line c.step_of-step.result c.answer_row-to.result c.answer_row-work.result
    c.step_of-step.ensures c.answer_row-to.ensures c.answer_row-work.ensures c.requires.small c.requires.few c.requires.roomy c.in-Ok.ensures.exact.1 in
    let is : MatchOption c.settle_step.result (c.map_or.result ≡ 0) (λ k. c.map_or.result ≡ k) = search rules in
    settled_as (logic_of m (g.L.Logic.opposes x) (g.L.Logic.partners x)) d.stages d.marks c.args.k c.in-Ok.line l
    c.step_of-step.result c.answer_row-to.result c.answer_row-work.result c.map_or.result c.args.stretch.now c.settle_step.new.stretch
    c.step_of-step.ensures c.answer_row-to.ensures c.answer_row-work.ensures (same_line c.in-Ok.line l (c.in-Ok.ensures.undoes l f e))
    (count_taken _ _ c.settle_step.result c.map_or.result there is c.settle_step.ensures.memory)

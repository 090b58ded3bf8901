use Rattle.std.proofs.Common.{◌+◌, length, take, sym, ◌∙◌, subst}
use Rattle.std.proofs.lemmas.Bool.{and_from, leb-true}
use Rattle.scale.specs.Model.{most_values}
use Rattle.ctl.specs.Operations.{ops_of, Small}
use Rattle.ctl.proofs.Cuts.{cutting}
use Rattle.steps.specs.Stretch.{row, Kept}
use Rattle.steps.proofs.Laid.{placed}
use Rattle.rounds.specs.Rows.{RowSettled, KeptFrom}
use Rattle.rounds.proofs.Lines.{settled}
use Rattle.rounds.proofs.settle_step.Goals as goal

pub returns : goal.returns
returns g c =
    let x = c.args.logic.now in let m = g.L.Scale.model x in let opp = g.L.Logic.opposes x in let par = g.L.Logic.partners x in
    let n = c.args.n in let a = c.args.a in let s = c.args.stretch.now in let step = c.args.step in let to = c.args.to in let work = c.args.work in
    let small : Small m = leb-true m.size most_values (sym c.if-not-has_readings.ensures.answer) in
    let o = ops_of m opp par in let cuts = cutting m opp par (g.met.L.Scale.lawful x) (g.met.L.Logic.opposed x) small in
    let cut = c.split_at_mut-above.ensures in let above = c.settle_apart.new.above in let below = c.settle_apart.new.below in let k = c.settle_apart.result in
    record {
      answer = sym (and_from _ _ (sym c.if-not-has_readings.ensures.answer) (sym c.if-not-is_laid.ensures));
      memory = settled o cuts n a s to work step (placed n a step to work (length s) (sym c.if-not-is_laid.ensures)) k above below (c.settle_apart.auto.above ∙ cut.front_len)
          (subst (λ l. RowSettled o n a (take to l) step k (row o above to)) cut.front c.settle_apart.ensures.row)
          (subst (λ l. Kept o to n l above) cut.front c.settle_apart.ensures.above)
          (subst (λ l. KeptFrom o (n + n) l below) cut.back c.settle_apart.ensures.below);
    }

use Rattle.std.proofs.Common.{refl, ap, ◌∙◌, ⊎_elim, get_or, arith}
use Rattle.std.proofs.lemmas.List.{get_or_append_left, get_or-take}
use Rattle.ctl.specs.Operations.{ops_of}
use Rattle.ctl.proofs.Cuts.{cutting}
use Rattle.rounds.proofs.Lines.{settled_behind, parts_kept}
use Rattle.rounds.proofs.settle_apart.Goals as goal

pub returns : goal.returns
returns g c =
    let x = c.args.logic.now in let m = g.L.Scale.model x in let opp = g.L.Logic.opposes x in let par = g.L.Logic.partners x in
    let o = ops_of m opp par in let cuts = cutting m opp par (g.met.L.Scale.lawful x) (g.met.L.Logic.opposed x) c.requires.small in
    let above = c.args.above.now in let values = c.split_at_mut-values.result.0.now in let new = c.settle.new.row in
    let cut = c.split_at_mut-values.ensures in let low = c.split_at_mut-work.ensures in
    record {
      row = settled_behind o cuts c.args.n c.args.a values c.args.to c.args.step c.settle.result above values new cut.front_len cut.front refl c.settle.ensures.row;
      above = λ i off.
          ⊎_elim (λ h. get_or_append_left values new m.lowest i (omega (arith, h, cut.front_len)) ∙ ap (λ l. get_or l i m.lowest) cut.front ∙ get_or-take c.args.to above i m.lowest h)
          (λ h. parts_kept m.lowest c.args.to c.args.n above values new c.split_at_mut-values.result.1.now cut.front_len cut.back c.settle.ensures.beside i h) off;
      below = parts_kept m.lowest c.args.n c.args.n c.args.below.now c.settle.new.work c.settle.new.next c.split_at_mut-work.result.1.now (c.settle.auto.work ∙ low.front_len) low.back c.settle.ensures.behind;
    }

use Rattle.std.proofs.Common.{◌++◌, sym, ◌∙◌, arith}
use Rattle.std.proofs.lemmas.List.{get_or_append_left}
use Rattle.ctl.specs.Operations.{ops_of}
use Rattle.ctl.specs.Computed.{at}
use Rattle.ctl.proofs.Cuts.{cutting}
use Rattle.rounds.proofs.Lines.{row_same, count_of, tail_kept}
use Rattle.rounds.proofs.rows.Given.settle.Goals as goal

pub returns : goal.returns
returns g c =
    let d = c.args.self.now in let x = d.logic.now in let m = g.L.Scale.model x in let opp = g.L.Logic.opposes x in let par = g.L.Logic.partners x in
    let o = ops_of m opp par in let cuts = cutting m opp par (g.met.L.Scale.lawful x) (g.met.L.Logic.opposed x) c.requires.small in
    let n = d.stages in let front = c.finish.new.row in let rest = c.split_at_mut-row.result.1.now in
    let size = c.finish.auto.row ∙ c.prepare-count.auto.row ∙ c.split_at_mut-row.ensures.front_len in
    let count = count_of o n d.marks d.values.now c.args.step c.prepare-count.result c.prepare-count.new.work c.prepare-count.ensures in
    record {
      row = record {
        row_is = row_same o cuts n d.marks d.values.now c.args.step (at o front) (at o (front ++ rest)) (λ i h. sym (get_or_append_left front rest m.lowest i (omega (arith, h, size)))) c.finish.ensures;
        count_is = count.0;
        few = count.1;
      };
      beside = tail_kept m.lowest n c.args.row.now front rest size c.split_at_mut-row.ensures.back;
      behind = tail_kept m.lowest n c.args.next.now c.prepare-count.new.next c.split_at_mut-next.result.1.now (c.prepare-count.auto.next ∙ c.split_at_mut-next.ensures.front_len) c.split_at_mut-next.ensures.back;
    }

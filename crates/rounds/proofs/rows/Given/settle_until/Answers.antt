use Rattle.std.proofs.Common.{suc, ◌+◌, sym, subst, arith, rules}
use Rattle.ctl.specs.Operations.{ops_of}
use Rattle.ctl.proofs.Cuts.{cutting}
use Rattle.rounds.proofs.Turns.{SoFar, reached_row, so_far_none, next_reached, soon, so_far_more, rested}
use Rattle.rounds.proofs.rows.Given.settle_until.Goals as goal

pub rounds-init : goal.rounds-init
rounds-init g c =
    let d = c.args.self.now in let x = d.logic.now in let m = g.L.Scale.model x in let opp = g.L.Logic.opposes x in let par = g.L.Logic.partners x in
    let o = ops_of m opp par in let cuts = cutting m opp par (g.met.L.Scale.lawful x) (g.met.L.Logic.opposed x) c.requires.small in
    so_far_none o cuts d.stages d.marks d.values.now c.args.until c.write.new.row
    (λ i h. let k = c.write.ensures i m.lowest (omega (arith, h, c.requires.row_size)) in search rules)

pub run_round-requires-clause-row : goal.run_round-requires-clause-row
run_round-requires-clause-row g c =
    let d = c.args.self.now in let x = d.logic.now in let m = g.L.Scale.model x in let opp = g.L.Logic.opposes x in let par = g.L.Logic.partners x in
    let o = ops_of m opp par in let cuts = cutting m opp par (g.met.L.Scale.lawful x) (g.met.L.Logic.opposed x) c.requires.small in
    reached_row o cuts d.stages d.marks d.values.now c.args.until c.rounds.count c.rounds.row (omega (arith, c.rounds.auto.row, c.write.auto.row, c.requires.row_size)) c.rounds.invariant.reached

pub same-requires-clause-first : goal.same-requires-clause-first
same-requires-clause-first g c =
    let d = c.args.self.now in let x = d.logic.now in let m = g.L.Scale.model x in let opp = g.L.Logic.opposes x in let par = g.L.Logic.partners x in
    let o = ops_of m opp par in let cuts = cutting m opp par (g.met.L.Scale.lawful x) (g.met.L.Logic.opposed x) c.requires.small in
    (reached_row o cuts d.stages d.marks d.values.now c.args.until c.rounds.count c.rounds.row (omega (arith, c.rounds.auto.row, c.write.auto.row, c.requires.row_size)) c.rounds.invariant.reached).values

pub same-requires-clause-second : goal.same-requires-clause-second
same-requires-clause-second g c =
    let d = c.args.self.now in let x = d.logic.now in let m = g.L.Scale.model x in let opp = g.L.Logic.opposes x in let par = g.L.Logic.partners x in
    let o = ops_of m opp par in let cuts = cutting m opp par (g.met.L.Scale.lawful x) (g.met.L.Logic.opposed x) c.requires.small in
    (reached_row o cuts d.stages d.marks d.values.now c.args.until (suc c.rounds.count) c.run_round.new.next (omega (arith, c.run_round.auto.next, c.rounds.auto.next, c.requires.next_size))
    (next_reached o cuts d.stages d.marks d.values.now c.args.until c.rounds.count c.rounds.row c.run_round.new.next c.rounds.invariant c.run_round.ensures)).values

pub rounds-smaller : goal.rounds-smaller
rounds-smaller g c =
    let d = c.args.self.now in let x = d.logic.now in let m = g.L.Scale.model x in let opp = g.L.Logic.opposes x in let par = g.L.Logic.partners x in
    let o = ops_of m opp par in let cuts = cutting m opp par (g.met.L.Scale.lawful x) (g.met.L.Logic.opposed x) c.requires.small in
    let more = soon o cuts d.stages d.marks d.values.now c.args.until c.rounds.count c.rounds.row c.run_round.new.next c.rounds.invariant c.run_round.ensures
    (omega (arith, c.rounds.auto.row, c.write.auto.row, c.requires.row_size)) (omega (arith, c.run_round.auto.next, c.rounds.auto.next, c.requires.next_size)) c.if-same.ensures in
    omega arith

pub rounds-preserved : goal.rounds-preserved
rounds-preserved g c =
    let d = c.args.self.now in let x = d.logic.now in let m = g.L.Scale.model x in let opp = g.L.Logic.opposes x in let par = g.L.Logic.partners x in
    let o = ops_of m opp par in let cuts = cutting m opp par (g.met.L.Scale.lawful x) (g.met.L.Logic.opposed x) c.requires.small in
    let more = so_far_more o cuts d.stages d.marks d.values.now c.args.until c.rounds.count c.rounds.row c.run_round.new.next c.rounds.invariant c.run_round.ensures
    (omega (arith, c.rounds.auto.row, c.write.auto.row, c.requires.row_size)) (omega (arith, c.run_round.auto.next, c.rounds.auto.next, c.requires.next_size)) c.if-same.ensures in
    subst (SoFar o d.stages d.marks d.values.now c.args.until (c.rounds.count + 1)) (sym c.copy_from_slice.ensures.after) more

pub returns : goal.returns
returns g c =
    let d = c.args.self.now in let x = d.logic.now in let m = g.L.Scale.model x in let opp = g.L.Logic.opposes x in let par = g.L.Logic.partners x in
    let o = ops_of m opp par in let cuts = cutting m opp par (g.met.L.Scale.lawful x) (g.met.L.Logic.opposed x) c.requires.small in
    rested o cuts d.stages d.marks d.values.now c.args.until c.rounds.count c.rounds.row c.run_round.new.next c.rounds.invariant c.run_round.ensures c.if-same.ensures

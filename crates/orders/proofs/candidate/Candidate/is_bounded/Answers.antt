use Rattle.std.proofs.Common.{◌<◌, sym, ap, ◌∙◌, arith}
use Rattle.std.proofs.lemmas.Bool.{and_left}
use Rattle.scale.proofs.Bools.{true_and}
use Rattle.orders.specs.Finite.{some}
use Rattle.orders.specs.Orders.{under, turned, below_both, is_greatest, join_of}
use Rattle.orders.proofs.Greatest.{has_meet, is_greatest_same, below_both_same, reversed_at}
use Rattle.orders.proofs.candidate.Candidate.is_bounded.Goals as goal

pub returns-else-is_meet : goal.returns-else-is_meet
returns-else-is_meet c =
    let o = c.args.self.now.order in
    let n = o.count in
    let le = under o.rows in
    let u = c.args.u.number in
    let v = c.args.v.number in
    let is = has_meet n le u v c.meet.result.number c.is_meet.result (omega (arith, o.least)) c.meet.ensures c.is_meet.ensures in
    c.if-is_meet.false
    ∙ sym (and_left (some n (is_greatest n le (below_both le u v))) (some n (is_greatest n (turned le) (below_both (turned le) u v))) (sym is ∙ c.if-is_meet.false))

pub returns-then-is_meet : goal.returns-then-is_meet
unfolding join_of
returns-then-is_meet c =
    let s = c.args.self.now in
    let o = s.order in
    let n = o.count in
    let le = under o.rows in
    let ge = under s.reverse.rows in
    let u = c.args.u.number in
    let v = c.args.v.number in
    let j = c.join.result in
    let positive : 0 < n = omega (arith, o.least) in
    let is = has_meet n le u v c.meet.result.number c.is_meet.result positive c.meet.ensures c.is_meet.ensures in
    let round = reversed_at o.rows s.reverse.rows s.turns in
    has_meet n (turned le) u v j.number c.is_meet-then-is_meet.result positive c.join.ensures
    (c.is_meet-then-is_meet.ensures
    ∙ ap (λ k. is_greatest k ge (below_both ge u v) j.number) s.counted
    ∙ is_greatest_same n ge (turned le) o.most round (below_both ge u v) (below_both (turned le) u v) (below_both_same n ge (turned le) o.most round u v c.args.u.small c.args.v.small) j.number j.small)
    ∙ sym (true_and (some n (is_greatest n le (below_both le u v))) (some n (is_greatest n (turned le) (below_both (turned le) u v))) (sym is ∙ c.if-is_meet.true))

use Rattle.std.proofs.Common.{refl, ◌∙◌}
use Rattle.orders.specs.Orders.{member, under, below_both}
use Rattle.orders.proofs.Greatest.{is_greatest_same}
use Rattle.orders.proofs.order.Order.is_meet.Goals as goal

pub returns : goal.returns
returns c =
    let o = c.args.self.now in
    c.is_greatest.ensures
    ∙ is_greatest_same o.count (under o.rows) (under o.rows) o.most (λ u v _ _. refl) (member c.below.result) (below_both (under o.rows) c.args.u.number c.args.v.number)
    (λ w _. c.below.ensures w) c.args.w.number c.args.w.small

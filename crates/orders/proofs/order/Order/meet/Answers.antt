use Rattle.std.proofs.Common.{refl, ◌∙◌}
use Rattle.orders.specs.Orders.{member, under, below_both, meet_of}
use Rattle.orders.proofs.Greatest.{greatest_same}
use Rattle.orders.proofs.order.Order.meet.Goals as goal

pub returns : goal.returns
unfolding meet_of
returns c =
    let o = c.args.self.now in
    c.greatest.ensures
    ∙ greatest_same o.count (under o.rows) (under o.rows) o.most (λ u v _ _. refl) (member c.below.result) (below_both (under o.rows) c.args.u.number c.args.v.number) (λ w _. c.below.ensures w)

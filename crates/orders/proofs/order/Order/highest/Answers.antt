use Rattle.std.proofs.Common.{true, refl, ◌∙◌}
use Rattle.orders.specs.Orders.{member, under, highest_of}
use Rattle.orders.proofs.Bits.{member_all}
use Rattle.orders.proofs.Greatest.{greatest_same}
use Rattle.orders.proofs.order.Order.highest.Goals as goal

pub returns : goal.returns
unfolding highest_of
returns c =
    let o = c.args.self.now in
    c.greatest.ensures
    ∙ greatest_same o.count (under o.rows) (under o.rows) o.most (λ u v _ _. refl) (member 65535) (λ v. true) (λ v h. member_all 16 v h)

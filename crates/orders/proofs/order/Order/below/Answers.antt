use Rattle.std.proofs.Common.{get_or}
use Rattle.orders.proofs.Bits.{member_and}
use Rattle.orders.proofs.order.Order.below.Goals as goal

pub returns : goal.returns
returns c w = rw (c.index.ensures, c.index-2.ensures) (member_and (get_or c.args.self.now.rows c.args.u.number 0) (get_or c.args.self.now.rows c.args.v.number 0) w)

use Rattle.std.proofs.lemmas.Grind.{common_steps}
use Rattle.std.proofs.Common.{arith}
use Rattle.orders.specs.Finite.{every_pair}
use Rattle.orders.proofs.order.Order.every_pair.Goals as goal

pub returns : goal.returns
unfolding every_pair
returns g c = grind (arith, common_steps)

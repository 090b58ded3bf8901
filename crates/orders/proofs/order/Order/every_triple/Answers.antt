use Rattle.std.proofs.lemmas.Grind.{common_steps}
use Rattle.std.proofs.Common.{arith}
use Rattle.orders.specs.Finite.{every_triple}
use Rattle.orders.proofs.order.Order.every_triple.Goals as goal

pub returns : goal.returns
unfolding every_triple
returns g c = grind (arith, common_steps)

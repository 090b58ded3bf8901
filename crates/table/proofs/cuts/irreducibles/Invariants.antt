use Rattle.std.proofs.Common.{◌≡◌, length}
use Rattle.orders.specs.Finite.{how_many, nth, Filled}
use Rattle.orders.specs.Orders.{under, irreducible}
use Rattle.table.proofs.cuts.irreducibles.Given as goal

abbrev pub invariant-loop-v : goal.invariant-loop-v
invariant-loop-v l =
    let P = irreducible l.candidate.order.count (under l.candidate.order.rows) in
    record { long : length l.values.items ≡ how_many l.v P; numbered : Filled (nth l.v P) (how_many l.v P) l.values.items }

use Rattle.std.proofs.Common.{◌≡◌, map, take}
use Rattle.orders.specs.Orders.{under, listed}
use Rattle.table.specs.Cuts.{cut_from}
use Rattle.table.proofs.cuts.cuts_of.Given as goal

abbrev pub invariant-loop-value : goal.invariant-loop-value
invariant-loop-value l =
    l.cuts.items ≡ map (cut_from l.candidate.order.count (under l.candidate.order.rows) (listed l.candidate.opposites) l.value-items) (take l.value-index l.value-items)

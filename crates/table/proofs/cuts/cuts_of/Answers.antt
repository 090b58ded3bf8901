use Rattle.std.proofs.Common.{◌≡◌, map, ap, ◌∙◌, arith, take_all}
use Rattle.orders.specs.Orders.{under, listed}
use Rattle.table.specs.Cuts.{irreducibles_of, cut_from}
use Rattle.table.proofs.Places.{cuts_made}
use Rattle.table.proofs.cuts.cuts_of.Goals as goal

pub returns : goal.returns
returns c =
    let k = c.args.candidate.now in
    let n = k.order.count in
    let le = under k.order.rows in
    let opp = listed k.opposites in
    let items = c.deref-value-items.result.now in
    let is : items ≡ irreducibles_of n le = c.deref-value-items.ensures.0 ∙ c.irreducibles-values.ensures in
    c.loop-value.invariant
    ∙ ap (map (cut_from n le opp items)) (take_all c.loop-value.value-index items (omega arith))
    ∙ ap (λ xs. map (cut_from n le opp xs) xs) is
    ∙ cuts_made n le k.order.most opp

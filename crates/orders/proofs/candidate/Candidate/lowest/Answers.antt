use Rattle.std.proofs.Common.{ap, ◌∙◌}
use Rattle.orders.specs.Orders.{under, turned, highest_of, lowest_of}
use Rattle.orders.proofs.Greatest.{highest_same, reversed_at}
use Rattle.orders.proofs.candidate.Candidate.lowest.Goals as goal

pub returns : goal.returns
unfolding lowest_of
returns c =
    let s = c.args.self.now in
    c.highest.ensures
    ∙ ap (λ n. highest_of n (under s.reverse.rows)) s.counted
    ∙ highest_same s.order.count (under s.reverse.rows) (turned (under s.order.rows)) s.order.most (reversed_at s.order.rows s.reverse.rows s.turns)

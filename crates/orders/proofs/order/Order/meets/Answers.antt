use Rattle.std.proofs.Common.{◌≡◌, ◌/◌, ◌%◌, tests, arith, rules}
use Rattle.orders.specs.Orders.{under, meet_of, cell_of}
use Rattle.orders.proofs.Ranges.{entries_from_fn}
use Rattle.orders.proofs.order.Order.meets.Goals as goal

pub returns : goal.returns
returns c =
    let o = c.args.self.now in
    entries_from_fn (λ k y. y ≡ cell_of (meet_of o.count (under o.rows)) k) c.from_fn.result 0 256 c.from_fn.ensures.items
    (λ k y q l w.
    let row : k / 16 % 16 ≡ k / 16 = omega arith in
    let column : k % 16 % 16 ≡ k % 16 = omega arith in
    search (rules, tests))

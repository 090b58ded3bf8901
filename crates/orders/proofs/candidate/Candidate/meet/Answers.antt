use Rattle.std.proofs.Common.{◌∙◌, arith}
use Rattle.orders.specs.Orders.{under, meet_of}
use Rattle.orders.proofs.Greatest.{meet_less, cell_read}
use Rattle.orders.proofs.candidate.Candidate.meet.Goals as goal

pub returns : goal.returns
returns c =
    let s = c.args.self.now in
    let n = s.order.count in
    let le = under s.order.rows in
    let u = c.args.u in
    let v = c.args.v in
    let is = c.at.ensures ∙ cell_read (meet_of n le) s.meets.cells u.number v.number u.small v.small s.met in
    omega (arith, c.from.ensures, is, meet_less n le u.number v.number (omega (arith, s.order.least)), s.order.most)

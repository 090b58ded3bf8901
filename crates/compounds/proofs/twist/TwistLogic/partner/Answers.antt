use Rattle.std.proofs.Common.{arith}
use Rattle.scale.proofs.Readings.{few_cuts}
use Rattle.compounds.proofs.FirstHalf.{first_below}
use Rattle.compounds.proofs.twist.TwistLogic.partner.Goals as goal

pub overflow_add-result : goal.overflow_add-result
overflow_add-result g c =
    let s = c.args.self.now.scale in
    let below = first_below c.size.result c.cut_count-h.result c.args.j c.in-First.i c.cut_half.result c.in_ok-i.field-0 c.cut_half.ensures c.in_ok-i.was c.in-First.is in
    omega (arith, below, c.cut_count-h.ensures, few_cuts (g.S.Scale.model s) (g.met.S.Scale.lawful s))

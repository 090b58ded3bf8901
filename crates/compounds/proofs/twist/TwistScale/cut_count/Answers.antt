use Rattle.std.proofs.Common.{arith}
use Rattle.scale.proofs.Readings.{few_cuts}
use Rattle.compounds.proofs.twist.TwistScale.cut_count.Goals as goal

pub overflow_add-result : goal.overflow_add-result
overflow_add-result g c =
    let s = c.args.self.now.scale in
    omega (arith, c.cut_count-h.ensures, few_cuts (g.S.Scale.model s) (g.met.S.Scale.lawful s))

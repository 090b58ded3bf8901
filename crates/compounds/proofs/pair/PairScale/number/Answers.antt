use Rattle.std.proofs.Common.{arith}
use Rattle.compounds.proofs.PairNumbers.{numbers_fit}
use Rattle.compounds.proofs.pair.PairScale.number.Goals as goal

pub overflow_mul-result : goal.overflow_mul-result
overflow_mul-result g c =
    let s = c.args.self.now in
    omega (
      arith,
      numbers_fit (g.A.Scale.model s.first) (g.B.Scale.model s.second) (g.met.A.Scale.lawful s.first) (g.met.B.Scale.lawful s.second)
          c.args.v.first c.args.v.second _ _ _ _ _ _ c.size.ensures c.if-size-gt4096.false c.size-2.ensures c.number.ensures c.in_ok-first.was c.number-2.ensures c.in_ok-second.was,
    )

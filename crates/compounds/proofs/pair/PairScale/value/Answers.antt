use Rattle.compounds.proofs.PairNumbers.{first_there, second_there}
use Rattle.compounds.proofs.pair.PairScale.value.Goals as goal

pub returns-in_err-first : goal.returns-in_err-first
returns-in_err-first g c =
    let s = c.args.self.now in
    absurd
    (first_there
    (g.A.Scale.model s.first) (g.B.Scale.model s.second)
    (g.met.A.Scale.lawful s.first) (g.met.B.Scale.lawful s.second)
    c.args.n c.size-size.result c.size-size.ensures c.if-n-size.false c.if-size-gt4096.false c.size-width.result _ c.value.result c.size-width.ensures c.value.ensures c.in_err-first.was)

pub returns-in_err-second : goal.returns-in_err-second
returns-in_err-second g c =
    let s = c.args.self.now in
    absurd
    (second_there
    (g.A.Scale.model s.first) (g.B.Scale.model s.second)
    (g.met.A.Scale.lawful s.first) (g.met.B.Scale.lawful s.second)
    c.args.n c.size-size.result c.size-size.ensures c.if-n-size.false c.if-size-gt4096.false c.size-width.result _ c.value-2.result c.size-width.ensures c.value-2.ensures c.in_err-second.was)

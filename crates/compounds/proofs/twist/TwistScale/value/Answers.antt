use Rattle.compounds.proofs.PairNumbers.{first_there, fallen_there}
use Rattle.compounds.specs.DualLaws.{dual, dual_lawful}
use Rattle.compounds.proofs.twist.TwistScale.value.Goals as goal

pub returns-in_err-pro : goal.returns-in_err-pro
returns-in_err-pro g c =
    let s = c.args.self.now.scale in
    let m = g.S.Scale.model s in
    let l = g.met.S.Scale.lawful s in
    absurd
    (first_there m (dual m) l (dual_lawful m l)
    c.args.n c.size-size.result c.size-size.ensures c.if-n-size.false c.if-size-gt4096.false _ _ _ c.size-width.ensures c.value.ensures c.in_err-pro.was)

pub returns-in_err-con : goal.returns-in_err-con
returns-in_err-con g c =
    let s = c.args.self.now.scale in
    absurd
    (fallen_there (g.S.Scale.model s) (g.met.S.Scale.lawful s)
    c.args.n c.size-size.result _ _ _ c.size-size.ensures c.if-size-gt4096.false c.size-width.ensures c.value-2.ensures c.in_err-con.was)

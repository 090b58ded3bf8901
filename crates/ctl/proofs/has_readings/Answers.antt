use Rattle.std.proofs.Common.{◌≤◌, leb, ap, arith}
use Rattle.std.proofs.lemmas.Bool.{leb-true}
use Rattle.ctl.specs.Operations.{Small}
use Rattle.ctl.proofs.Meant.{meant}
use Rattle.ctl.proofs.has_readings.Goals as goal

pub returns : goal.returns
returns g c =
    let l = c.args.logic.now in
    let m = g.L.Scale.model l in
    record {
      answer = ap (λ k. leb k 4096) c.size.ensures;
      meaning = λ e.
          let few : c.size.result ≤ 4096 = leb-true _ _ e in
          let small : Small m = omega (arith, c.size.ensures) in
          meant m (g.L.Logic.opposes l) (g.L.Logic.partners l) (g.met.L.Scale.lawful l) (g.met.L.Logic.opposed l) small;
    }

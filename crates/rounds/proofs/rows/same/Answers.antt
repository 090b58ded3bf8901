use Rattle.std.proofs.Common.{arith, rules}
use Rattle.std.proofs.lemmas.Iterator.{YieldsList-from_zip, YieldsList-from_slice}
use Rattle.std.proofs.lemmas.Iterator.Consumers.{YieldsList-end}
use Rattle.std.proofs.lemmas.List.{ext_get_or}
use Rattle.rounds.proofs.Zips.{zip_size}
use Rattle.rounds.proofs.rows.same.Goals as goal

pub returns : goal.returns
returns g c =
    let x = c.args.x.now in let y = c.args.y.now in
    let road = YieldsList-from_zip (YieldsList-from_slice x (search rules)) (YieldsList-from_slice y (search rules)) in
    let end = YieldsList-end road c.loop-u.yielded c.loop-u.u-iterator c.loop-u.yielded_by c.next.result c.next.new.self c.in-None.is c.next.ensures.steps in
    ext_get_or (g.L.Scale.model c.args.logic.now).lowest x y c.requires.sizes (λ i h. c.loop-u.invariant i (omega (arith, end.1, zip_size x y c.requires.sizes)))

use Rattle.std.proofs.Common.{◌%◌, tests, refl, ap, ◌∙◌, arith, rules}
use Rattle.std.proofs.lemmas.Iterator.{YieldsList-from_range}
use Rattle.std.proofs.lemmas.Iterator.Search.{all_from_yields_List}
use Rattle.orders.proofs.Finites.{every_same}
use Rattle.orders.proofs.Ranges.{every_listed}
use Rattle.orders.proofs.order.Order.every.Goals as goal

pub returns : goal.returns
returns g c P h =
    let n = c.args.self.now.count in
    all_from_yields_List (λ x. P (x % 16)) _ _ _ c.all.ensures.ran (YieldsList-from_range 0 n n refl (omega arith)) (λ x b q k. search (rules, tests))
    ∙ every_listed (λ x. P (x % 16)) n
    ∙ every_same (λ x. P (x % 16)) P n (λ i l. ap P (omega (arith, c.args.self.now.most)))

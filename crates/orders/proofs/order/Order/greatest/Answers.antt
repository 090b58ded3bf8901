use Rattle.std.proofs.Common.{◌%◌, tests, refl, sym, ap, ◌∙◌, arith, rules}
use Rattle.std.proofs.lemmas.Iterator.Adapters.{option_map_id}
use Rattle.std.proofs.lemmas.Iterator.Search.{find_from_yields_List}
use Rattle.std.specs.Option.{unwrap_or}
use Rattle.orders.specs.Orders.{member, under, is_greatest, greatest_of}
use Rattle.orders.proofs.Finites.{pick_same}
use Rattle.orders.proofs.Ranges.{YieldsList-from_range_back, last_found}
use Rattle.orders.proofs.order.Order.greatest.Goals as goal

pub returns : goal.returns
unfolding greatest_of
returns c =
    let n = c.args.self.now.count in
    let P = is_greatest n (under c.args.self.now.rows) (member c.args.values) in
    c.unwrap_or.ensures
    ∙ ap (λ o. unwrap_or o 0) (sym (option_map_id c.rfind.result) ∙ find_from_yields_List (λ x. P (x % 16)) _ _ c.rfind.result c.rfind.ensures.ran (YieldsList-from_range_back n refl) (λ x b q k. search (rules, tests)))
    ∙ last_found (λ x. P (x % 16)) n
    ∙ pick_same (λ x. P (x % 16)) P n (λ i l. ap P (omega (arith, c.args.self.now.most)))

use Rattle.std.proofs.Common.{◌≡◌, ℕ, ◌*◌, ◌%◌, ◌^◌, Bool, refl, ap, ◌∙◌, arith, rules, tests}
use lib.Bits.{bit_or}
use Rattle.std.proofs.lemmas.Iterator.{YieldsList-from_range}
use Rattle.std.proofs.lemmas.Iterator.Consumers.{YieldsList-from_filter}
use Rattle.orders.specs.Orders.{under}
use Rattle.orders.proofs.Folds.{Collects, collects_none, collects_more, collected}
use Rattle.orders.proofs.Ranges.{fold_listed}
use Rattle.orders.proofs.order.Order.above.Goals as goal

pub returns : goal.returns
returns c v h =
    let f = under c.args.self.now.rows c.args.u.number in
    let P : ℕ → Bool = λ x. f (x % 16) in
    collected P 16 v c.fold.result (omega arith) h
    (fold_listed (Collects v) _ _ c.fold.ensures.ran.2 c.fold.ensures.ran.3
    (YieldsList-from_filter _ P (YieldsList-from_range 0 16 16 c.filter.ensures.source refl) c.filter.ensures.closure (λ x b q k. search (rules, tests)))
    (collects_none v) (λ ys a x b q j k. let is : b ≡ bit_or a (1 * 2 ^ x % 65536) = search (rules, tests) in (collects_more v ys a x b j is, refl)))
    ∙ ap f (omega arith)

use Rattle.std.proofs.Common.{◌≡◌, ℕ, ◌%◌, ◌<◌, arith, rules}
use Rattle.std.proofs.lemmas.Grind.{common_steps}
use Rattle.orders.specs.Finite.{every}
use Rattle.orders.specs.Orders.{member, under, alike, reversed_rows}
use Rattle.orders.proofs.Finites.{every_from, alike_from}
use Rattle.orders.proofs.Ranges.{entries_from_fn}
use Rattle.orders.proofs.order.Order.reversed.Goals as goal

pub returns-clause-turned : goal.returns-clause-turned
unfolding reversed_rows
returns-clause-turned c =
    let rows = c.args.self.now.rows in
    let xs = c.from_fn.result in
    let entry = entries_from_fn (λ u x. (v : ℕ) → v < 16 → member x v ≡ under rows u v) xs 0 16 c.from_fn.ensures.items
    (λ u x q l w. let small : u % 16 ≡ u = omega arith in (search rules, λ v h. grind (arith, common_steps))) in
    every_from (λ u. every 16 (λ v. alike (under xs u v) (under rows v u))) 16
    (λ u hu. every_from (λ v. alike (under xs u v) (under rows v u)) 16 (λ v hv. alike_from (under xs u v) (under rows v u) (entry v hv u hu)))

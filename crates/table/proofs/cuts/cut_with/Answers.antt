use Rattle.std.proofs.Common.{◌≡◌, ◌%◌, eqb, tests, refl, ap, ◌∙◌, arith, rules}
use Rattle.std.specs.List.{position}
use Rattle.std.specs.Option.{unwrap_or}
use Rattle.std.proofs.lemmas.Iterator.{YieldsList-from_slice}
use Rattle.std.proofs.lemmas.Iterator.Search.{position_from_yields_List}
use Rattle.orders.specs.Orders.{under, listed, ceiling_of}
use Rattle.orders.proofs.Greatest.{ceiling_less}
use Rattle.table.proofs.cuts.cut_with.Goals as goal

pub returns : goal.returns
returns c =
    let k = c.args.candidate.now in
    let n = k.order.count in
    let le = under k.order.rows in
    let opp = listed k.opposites in
    let xs = c.args.values.now.items in
    let m = c.ceiling-ceiling.result in
    let is : m ≡ ceiling_of n le (c.args.value % 16) = c.ceiling-ceiling.ensures in
    let facing : c.opposite-facing.result.number ≡ opp m =
    c.opposite-facing.ensures ∙ ap opp (omega (arith, c.from.ensures, is, ceiling_less n le (c.args.value % 16) (omega (arith, k.order.least)), k.order.most)) in
    let items : c.iter.result.rest.now ≡ xs = search rules in
    let place : c.position.result ≡ position (λ v. eqb v c.opposite-facing.result.number) xs =
    position_from_yields_List (λ v. eqb v c.opposite-facing.result.number) _ _ _ c.position.ensures.ran (YieldsList-from_slice xs items) (λ x b q k. search (rules, tests)) in
    let partner : c.unwrap_or-partner.result ≡ unwrap_or (position (λ v. eqb v (opp m)) xs) 0 =
    c.unwrap_or-partner.ensures ∙ ap (λ o. unwrap_or o 0) place ∙ ap (λ d. unwrap_or (position (λ v. eqb v d) xs) 0) facing in
    rw (partner, is) refl

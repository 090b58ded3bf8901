use Rattle.std.proofs.Common.{◌-◌, ◌%◌, not, get_or, refl, ap, ◌∙◌, arith, rules}
use Rattle.orders.specs.Orders.{member, under, ceiling_of}
use Rattle.orders.proofs.Bits.{member_rest}
use Rattle.orders.proofs.Greatest.{greatest_same, reversed_at}
use Rattle.orders.proofs.candidate.Candidate.ceiling.Goals as goal

pub returns : goal.returns
unfolding ceiling_of
returns c =
    let s = c.args.self.now in
    let le = under s.order.rows in
    let k = c.args.c % 16 in
    let a = get_or s.reverse.rows c.index.result 0 in
    c.greatest.ensures
    ∙ greatest_same s.order.count le le s.order.most (λ u v _ _. refl) (member (65535 - a)) (λ v. not (le k v))
    (λ v l. member_rest a v (search rules) l ∙ ap not (ap (λ x. member (get_or s.reverse.rows x 0) v) (c.index.ensures ∙ c.from.ensures) ∙ reversed_at s.order.rows s.reverse.rows s.turns v k l (omega arith)))

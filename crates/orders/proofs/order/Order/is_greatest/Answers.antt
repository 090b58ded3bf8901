use Rattle.std.proofs.Common.{◌≡◌, ◌-◌, ◌*◌, ◌%◌, ◌^◌, eqb, get_or, sym, ap, ◌∙◌, arith}
use lib.Bits.{bit_and}
use Rattle.std.proofs.lemmas.Nat.{one_shl}
use Rattle.scale.proofs.Bools.{true_and}
use Rattle.orders.specs.Finite.{every}
use Rattle.orders.specs.Orders.{member, under, implies}
use Rattle.orders.proofs.Bits.{all_in}
use Rattle.orders.proofs.order.Order.is_greatest.Goals as goal

pub returns-then-is_member : goal.returns-then-is_member
returns-then-is_member c =
    let o = c.args.self.now in
    let n = o.count in
    let a = c.args.values in
    let w = c.args.w.number in
    let p : 1 * 2 ^ n % 4294967296 ≡ 2 ^ n = one_shl n 32 (omega arith) in
    let e : w % 16 ≡ w = omega (arith, c.args.w.small) in
    ap (λ x. eqb (bit_and (bit_and a (x - 1)) (get_or o.rows c.index.result 0)) (bit_and a (x - 1))) p
    ∙ ap (λ x. eqb (bit_and (bit_and a (2 ^ n - 1)) (get_or o.rows x 0)) (bit_and a (2 ^ n - 1))) c.index.ensures
    ∙ all_in n a (get_or o.rows w 0)
    ∙ sym (true_and (member a w) (every n (λ x. implies (member a x) (under o.rows x w))) (ap (member a) (sym e) ∙ sym c.is_member.ensures ∙ c.if-is_member.true))

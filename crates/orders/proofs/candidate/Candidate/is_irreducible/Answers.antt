use Rattle.std.proofs.Common.{◌≡◌, false, not, eqb, sym, ap, ◌∙◌, rules}
use Rattle.std.proofs.lemmas.Bool.{and_left, eq-eqb, ne_eqb}
use Rattle.scale.proofs.Bools.{true_and}
use Rattle.orders.specs.Finite.{every, every_pair}
use Rattle.orders.specs.Orders.{under, lowest_of, irreducible_at, irreducible}
use Rattle.orders.proofs.candidate.Candidate.is_irreducible.Goals as goal

pub returns-then-c-lowest : goal.returns-then-c-lowest
unfolding irreducible every_pair
returns-then-c-lowest c =
    let o = c.args.self.now.order in
    let n = o.count in
    let le = under o.rows in
    let x = c.from-c.result.number in
    c.every_pair.ensures (irreducible_at n le x) (λ a b t k. search rules)
    ∙ sym (true_and (not (eqb x (lowest_of n le))) (every n (λ a. every n (λ b. irreducible_at n le x a b))) (ap not (ne_eqb x (lowest_of n le) (λ e. c.if-c-lowest.true (e ∙ sym c.lowest.ensures)))))
    ∙ ap (irreducible n le) c.from-c.ensures

pub returns-else-c-lowest : goal.returns-else-c-lowest
unfolding irreducible
returns-else-c-lowest c =
    let o = c.args.self.now.order in
    let n = o.count in
    let le = under o.rows in
    let x = c.from-c.result.number in
    let same : not (eqb x c.lowest.result) ≡ false = ap not (eq-eqb x c.lowest.result c.if-c-lowest.false) in
    same
    ∙ sym (and_left (not (eqb x (lowest_of n le))) (every n (λ a. every n (λ b. irreducible_at n le x a b))) (ap not (eq-eqb x (lowest_of n le) (c.if-c-lowest.false ∙ c.lowest.ensures))))
    ∙ ap (irreducible n le) c.from-c.ensures

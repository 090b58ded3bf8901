use Rattle.std.proofs.Common.{◌≡◌, true, false, refl, sym, ◌∙◌, rules}
use Rattle.orders.specs.Finite.{every_pair, every_triple}
use Rattle.orders.specs.Orders.{under, listed, ordered, latticed, spread, opposing, order_at, bounded_at, spread_at, opposed_at}
use Rattle.orders.proofs.Verdicts.{tried}
use Rattle.orders.proofs.candidate.Candidate.check_laws.Goals as goal
use Rattle.orders.proofs.candidate.Candidate.check_laws.Goals.{After-every_triple, After-every_pair, After-every_triple-2, After-every_pair-2}

-- what each test answered
order_tried : (c : After-every_triple) → c.every_triple.result ≡ ordered c.args.self.now.order.count (under c.args.self.now.order.rows)
unfolding ordered every_triple every_pair
order_tried c = c.every_triple.ensures (order_at (under c.args.self.now.order.rows)) (λ u v w b k. search rules)

lattice_tried : (c : After-every_pair) → c.every_pair.result ≡ latticed c.args.self.now.order.count (under c.args.self.now.order.rows)
unfolding latticed every_pair
lattice_tried c = c.every_pair.ensures (bounded_at c.args.self.now.order.count (under c.args.self.now.order.rows)) (λ u v b k. search rules)

spread_tried : (c : After-every_triple-2) → c.every_triple-2.result ≡ spread c.args.self.now.order.count (under c.args.self.now.order.rows)
unfolding spread every_triple every_pair
spread_tried c = c.every_triple-2.ensures (spread_at c.args.self.now.order.count (under c.args.self.now.order.rows)) (λ u v w b k. search rules)

opposites_tried : (c : After-every_pair-2) → c.every_pair-2.result ≡ opposing c.args.self.now.order.count (under c.args.self.now.order.rows) (listed c.args.self.now.opposites)
unfolding opposing every_pair
opposites_tried c = c.every_pair-2.ensures (opposed_at c.args.self.now.order.count (under c.args.self.now.order.rows) (listed c.args.self.now.opposites)) (λ v w b k. search rules)

pub returns-then-not-every_triple : goal.returns-then-not-every_triple
returns-then-not-every_triple c =
    let s = c.args.self.now in
    tried s.order.count s.order.rows s.opposites false _ _ _
    (sym c.if-not-every_triple.true ∙ order_tried (goal.at.returns-then-not-every_triple c).After-every_triple)
    refl
    refl
    refl

pub returns-then-not-every_pair : goal.returns-then-not-every_pair
returns-then-not-every_pair c =
    let s = c.args.self.now in
    tried s.order.count s.order.rows s.opposites true false _ _
    (sym c.if-not-every_triple.false ∙ order_tried (goal.at.returns-then-not-every_pair c).After-every_triple)
    (sym c.if-not-every_pair.true ∙ lattice_tried (goal.at.returns-then-not-every_pair c).After-every_pair)
    refl
    refl

pub returns-then-not-every_triple-2 : goal.returns-then-not-every_triple-2
returns-then-not-every_triple-2 c =
    let s = c.args.self.now in
    tried s.order.count s.order.rows s.opposites true true false _
    (sym c.if-not-every_triple.false ∙ order_tried (goal.at.returns-then-not-every_triple-2 c).After-every_triple)
    (sym c.if-not-every_pair.false ∙ lattice_tried (goal.at.returns-then-not-every_triple-2 c).After-every_pair)
    (sym c.if-not-every_triple-2.true ∙ spread_tried (goal.at.returns-then-not-every_triple-2 c).After-every_triple-2)
    refl

pub returns-then-not-every_pair-2 : goal.returns-then-not-every_pair-2
returns-then-not-every_pair-2 c =
    let s = c.args.self.now in
    tried s.order.count s.order.rows s.opposites true true true false
    (sym c.if-not-every_triple.false ∙ order_tried (goal.at.returns-then-not-every_pair-2 c).After-every_triple)
    (sym c.if-not-every_pair.false ∙ lattice_tried (goal.at.returns-then-not-every_pair-2 c).After-every_pair)
    (sym c.if-not-every_triple-2.false ∙ spread_tried (goal.at.returns-then-not-every_pair-2 c).After-every_triple-2)
    (sym c.if-not-every_pair-2.true ∙ opposites_tried (goal.at.returns-then-not-every_pair-2 c).After-every_pair-2)

pub returns : goal.returns
returns c =
    let s = c.args.self.now in
    tried s.order.count s.order.rows s.opposites true true true true
    (sym c.if-not-every_triple.false ∙ order_tried (goal.at.returns c).After-every_triple)
    (sym c.if-not-every_pair.false ∙ lattice_tried (goal.at.returns c).After-every_pair)
    (sym c.if-not-every_triple-2.false ∙ spread_tried (goal.at.returns c).After-every_triple-2)
    (sym c.if-not-every_pair-2.false ∙ opposites_tried (goal.at.returns c).After-every_pair-2)

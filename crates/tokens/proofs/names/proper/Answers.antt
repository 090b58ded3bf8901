use Rattle.std.proofs.Common.{rules, nat_eq, sym, ◌∙◌}
use borrow.Author.Tests.{tests, clash}
use Rattle.std.proofs.lemmas.Bool.{eqb-true, eq-eqb}
use Rattle.std.proofs.lemmas.Iterator.{cases_from_all}
use Rattle.std.proofs.lemmas.Iterator.Consumers.{YieldsList-from_enumerate, YieldsList-at}
use Rattle.std.proofs.lemmas.Iterator.Splits.{YieldsList-from_slice_split}
use Rattle.tokens.proofs.Lists.{Named, all_named}
use Rattle.tokens.proofs.names.proper.Goals as goal

pub returns-then-all : goal.returns-then-all
returns-then-all c =
    let h = all_named c.args.list.now c.args.marks c.all.result (sym c.is_empty.ensures ∙ c.if-is_empty.false)
    (cases_from_all _ _ c.all.result (Named c.args.list.now c.args.marks) (λ p. Named c.args.list.now c.args.marks p → ⊥) c.all.ensures.ran
    (YieldsList-from_enumerate (YieldsList-at c.enumerate.ensures.source (YieldsList-from_slice_split _ (λ b. nat_eq b 32) c.args.list.now c.split.ensures.rest c.split.ensures.done c.split.ensures.closure (λ x b q k. search (rules, tests)))) c.enumerate.ensures.count)
    (λ x q k. search (rules, tests)) (λ x q k. search (rules, tests))) in (
      λ t. h.0 c.if-all.true (sym c.count.ensures ∙ eqb-true _ _ t),
      λ p. eq-eqb _ _ (c.count.ensures ∙ p.count),
    )

pub returns-else-all : goal.returns-else-all
returns-else-all c =
    let h = all_named c.args.list.now c.args.marks c.all.result (sym c.is_empty.ensures ∙ c.if-is_empty.false)
    (cases_from_all _ _ c.all.result (Named c.args.list.now c.args.marks) (λ p. Named c.args.list.now c.args.marks p → ⊥) c.all.ensures.ran
    (YieldsList-from_enumerate (YieldsList-at c.enumerate.ensures.source (YieldsList-from_slice_split _ (λ b. nat_eq b 32) c.args.list.now c.split.ensures.rest c.split.ensures.done c.split.ensures.closure (λ x b q k. search (rules, tests)))) c.enumerate.ensures.count)
    (λ x q k. search (rules, tests)) (λ x q k. search (rules, tests))) in (
      λ t. absurd (clash (sym c.if-all.false ∙ t)),
      h.1,
    )

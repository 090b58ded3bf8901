use Rattle.std.proofs.Common.{rules, ◌≡◌, ◌≢◌, nat_eq, sym, ◌∙◌}
use borrow.Author.Tests.{tests}
use Rattle.std.proofs.lemmas.Iterator.{IsFirst-from_position}
use Rattle.std.proofs.lemmas.Iterator.Splits.{YieldsList-from_slice_split}
use Rattle.tokens.proofs.Lists.{first_listed}
use Rattle.tokens.proofs.names.mark_of.Goals as goal

pub returns : goal.returns
returns c =
    first_listed c.args.list.now c.args.name.now c.position.result (sym c.is_empty.ensures ∙ c.if-is_empty.false)
    (IsFirst-from_position _ _ c.position.result (λ w. w ≡ c.args.name.now) (λ w. w ≢ c.args.name.now) c.position.ensures.ran
    (YieldsList-from_slice_split _ (λ b. nat_eq b 32) c.args.list.now c.split.ensures.rest c.split.ensures.done c.split.ensures.closure (λ x b q k. search (rules, tests)))
    (λ x q k. search (rules, tests)) (λ x q k. search (rules, tests)))

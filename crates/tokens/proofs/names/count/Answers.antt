use Rattle.std.proofs.Common.{rules, nat_eq, length, ap, sym, ◌∙◌}
use borrow.Author.Tests.{tests}
use Rattle.std.proofs.lemmas.Iterator.Consumers.{count_from_yields_List}
use Rattle.std.proofs.lemmas.Iterator.Splits.{YieldsList-from_slice_split}
use Rattle.tokens.proofs.Lists.{names_parts}
use Rattle.tokens.proofs.names.count.Goals as goal

pub returns : goal.returns
returns c =
    count_from_yields_List c.split.result _ c.count.ensures.ran
    (YieldsList-from_slice_split _ (λ b. nat_eq b 32) c.args.list.now c.split.ensures.rest c.split.ensures.done c.split.ensures.closure (λ x b q k. search (rules, tests)))
    ∙ ap length (sym (names_parts c.args.list.now (sym c.is_empty.ensures ∙ c.if-is_empty.false)))

use Rattle.std.proofs.Common.{rules, ◌≡◌, ◌-◌, length, take, drop, nat_eq, sym, ap, ◌∙◌, arith, length-drop, take_all, drop-drop}
use borrow.Author.Tests.{tests}
use Rattle.std.specs.List.{prefix_len}
use Rattle.std.proofs.lemmas.Iterator.{YieldsList-from_slice}
use Rattle.std.proofs.lemmas.Iterator.Consumers.{YieldsList-at, count_from_yields_List}
use Rattle.std.proofs.lemmas.Iterator.Search.{YieldsList-from_take_while}
use Rattle.std.proofs.lemmas.List.Folds.{length-prefix_len}
use Rattle.tokens.specs.Bytes.{skip}
use Rattle.tokens.proofs.Fronts.{skip_is, drop_min}
use Rattle.tokens.proofs.skip_spaces.Goals as goal

pub returns-clause-is : goal.returns-clause-is
returns-clause-is c =
    let i = c.min-from.result in
    let rest = drop i c.args.text.now in
    let all : take (length c.args.text.now - i) rest ≡ rest = take_all _ rest (omega (arith, length-drop i c.args.text.now)) in
    let n : c.count.result ≡ prefix_len (λ b. nat_eq b 32) rest =
    count_from_yields_List c.take_while.result _ c.count.ensures.ran
    (YieldsList-from_take_while _ (λ b. nat_eq b 32) (YieldsList-at c.take_while.ensures.source (YieldsList-from_slice rest (c.iter.ensures.rest ∙ all))) c.take_while.ensures.closure c.take_while.ensures.done (λ x b q k. search (rules, tests)))
    ∙ length-prefix_len (λ b. nat_eq b 32) rest in
    sym (drop-drop c.count.result i c.args.text.now) ∙ ap (λ k. drop k rest) n ∙ skip_is rest ∙ ap skip (drop_min c.args.from i c.args.text.now (omega arith))

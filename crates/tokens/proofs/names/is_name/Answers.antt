use Rattle.std.proofs.Common.{rules, sym, ◌∙◌}
use borrow.Author.Tests.{tests}
use Rattle.std.proofs.lemmas.Iterator.{YieldsList-from_slice}
use Rattle.std.proofs.lemmas.Iterator.Search.{all_from_yields_List}
use Rattle.tokens.specs.Bytes.{in_name}
use Rattle.tokens.proofs.Lists.{name_of}
use Rattle.tokens.proofs.names.is_name.Goals as goal

pub returns-then-behind-le-MOST_BEHIND : goal.returns-then-behind-le-MOST_BEHIND
returns-then-behind-le-MOST_BEHIND c =
    let t = c.if-behind-le-MOST_BEHIND.true in
    name_of c.in-Some.first.now c.in-Some.behind.now c.args.bytes.now c.all.result c.in-Some.ensures.cases.0 (sym c.is_ascii_lowercase.ensures.value ∙ t.0) t.1
    (all_from_yields_List in_name _ _ c.all.result c.all.ensures.ran (YieldsList-from_slice c.in-Some.behind.now c.iter.ensures.rest) (λ x b q k. search (rules, tests)))

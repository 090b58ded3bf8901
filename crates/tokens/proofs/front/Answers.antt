use Rattle.std.proofs.Common.{rules, ◌≡◌, ◌+◌, ◌<◌, ◌≤◌, take, drop, sym, ◌∙◌, subst, arith}
use borrow.Author.Tests.{tests}
use Rattle.std.proofs.lemmas.Iterator.{YieldsList-from_slice}
use Rattle.std.proofs.lemmas.Iterator.Consumers.{YieldsList-at, count_from_yields_List}
use Rattle.std.proofs.lemmas.Iterator.Search.{YieldsList-from_take_while}
use Rattle.std.proofs.lemmas.List.Folds.{length-prefix_len}
use Rattle.tokens.specs.Bytes.{in_name, skip, run}
use Rattle.tokens.specs.Tokens.{t_name, tStray, Seen}
use Rattle.std.proofs.lemmas.Bool.Decides.{nat_tests}
use Rattle.tokens.proofs.Fronts.{starts, not_space, is_small, name_on, name_off, other}
use Rattle.tokens.proofs.front.Goals as goal
use Rattle.tokens.proofs.front.Goals.{After-count-n}
use Rattle.tokens.proofs.front.Goals.{in_default-2-via-then-this-lt97, in_default-2-via-else-this-lt97+else-this-lt123}

run_is : (c : After-count-n) → c.count-n.result ≡ run c.in-Some.behind.now
run_is c =
    count_from_yields_List c.take_while.result _ c.count-n.ensures.ran
    (YieldsList-from_take_while _ in_name (YieldsList-at c.take_while.ensures.source (YieldsList-from_slice c.in-Some.behind.now c.iter.ensures.rest)) c.take_while.ensures.closure c.take_while.ensures.done (λ x b q k. search (rules, tests)))
    ∙ length-prefix_len in_name c.in-Some.behind.now

pub returns-then-n-gt-MOST_BEHIND-clause-seen : goal.returns-then-n-gt-MOST_BEHIND-clause-seen
returns-then-n-gt-MOST_BEHIND-clause-seen c =
    subst (λ t. Seen t tStray (drop 1 c.args.text.now)) (sym c.in-Some.ensures.cases.0)
    (name_off c.in-Some.first.now c.count-n.result c.in-Some.behind.now _ (is_small c.in-Some.first.now (omega arith) (omega arith)) (run_is (goal.at.returns-then-n-gt-MOST_BEHIND-clause-seen c).After-count-n) c.if-n-gt-MOST_BEHIND.true)

pub returns-else-n-gt-MOST_BEHIND-clause-seen : goal.returns-else-n-gt-MOST_BEHIND-clause-seen
returns-else-n-gt-MOST_BEHIND-clause-seen c =
    subst (λ t. Seen t (t_name (take (1 + c.count-n.result) t)) (drop (1 + c.count-n.result) t)) (sym c.in-Some.ensures.cases.0)
    (name_on c.in-Some.first.now c.count-n.result c.in-Some.behind.now (is_small c.in-Some.first.now (omega arith) (omega arith)) (run_is (goal.at.returns-else-n-gt-MOST_BEHIND-clause-seen c).After-count-n) c.if-n-gt-MOST_BEHIND.false)

pub returns-in_default-2-clause-seen : goal.returns-in_default-2-clause-seen
returns-in_default-2-clause-seen c =
    let b = c.in-Some.first.now in
    let m = c.in-Some.behind.now in
    let out : 97 ≤ b → 122 < b = λ h. elim c.in_default-2.branch [ in_default-2-via-then-this-lt97 w ↦ omega arith | in_default-2-via-else-this-lt97+else-this-lt123 w ↦ omega arith ] in
    let e = c.in-Some.ensures.cases.0 in
    let none : starts b m ≡ (tStray, m) = grind (arith, nat_tests, out) in
    subst (λ t. Seen t tStray (drop 1 c.args.text.now)) (sym e) (other b m (drop 1 c.args.text.now) (not_space b m (subst (λ t. skip t ≡ t) e c.requires)) none)

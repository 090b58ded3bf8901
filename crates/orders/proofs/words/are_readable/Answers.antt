use Rattle.std.proofs.Common.{◌≡◌, ◌*◌, ◌%◌, ◌^◌, true, false, ◌&&◌, leb, length, get_or, sym, ap, ◌∙◌, arith, rules, tests}
use Rattle.std.proofs.lemmas.Bool.{and_parts, and_left, leb-true}
use Rattle.std.proofs.lemmas.Nat.{one_shl}
use Rattle.std.proofs.lemmas.Iterator.{YieldsList-from_slice}
use Rattle.std.proofs.lemmas.Iterator.Search.{all_from_yields_List}
use Rattle.scale.proofs.Bools.{true_and}
use Rattle.orders.specs.Finite.{every}
use Rattle.orders.specs.Words.{laid_out, readable}
use Rattle.orders.proofs.Ranges.{every_item}
use Rattle.orders.proofs.words.are_readable.Goals as goal

pub returns-then-contains : goal.returns-then-contains
unfolding readable
returns-then-contains c =
    let w = c.args.words.now in
    let n = length w in
    let within : (leb 2 n && leb n 16) ≡ true = search (rules, tests) in
    let p : 1 * 2 ^ n % 4294967296 ≡ 2 ^ n = one_shl n 32 (omega (arith, leb-true n 16 (and_parts (leb 2 n) (leb n 16) within).1)) in
    all_from_yields_List (laid_out (1 * 2 ^ n % 4294967296)) _ _ _ c.all.ensures.ran (YieldsList-from_slice w c.iter.ensures.rest) (λ x b q k. search (rules, tests))
    ∙ every_item (laid_out (1 * 2 ^ n % 4294967296)) w
    ∙ ap (λ x. every n (λ k. laid_out x (get_or w k 0))) p
    ∙ sym (true_and (leb 2 n && leb n 16) (every n (λ k. laid_out (2 ^ n) (get_or w k 0))) within)

pub returns-else-contains : goal.returns-else-contains
unfolding readable
returns-else-contains c =
    let w = c.args.words.now in
    let n = length w in
    let without : (leb 2 n && leb n 16) ≡ false = search (rules, tests) in
    c.if-contains.false ∙ sym (and_left (leb 2 n && leb n 16) (every n (λ k. laid_out (2 ^ n) (get_or w k 0))) without)

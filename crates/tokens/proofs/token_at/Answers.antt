use Rattle.std.proofs.Common.{◌≡◌, ◌-◌, length, take, drop, sym, subst, arith, length-drop, take_all, drop-drop}
use Rattle.tokens.specs.Bytes.{skip}
use Rattle.tokens.specs.Tokens.{Seen}
use Rattle.tokens.specs.Shown.{tok_of}
use Rattle.tokens.proofs.Fronts.{skip_twice, seen_behind}
use Rattle.tokens.proofs.token_at.Goals as goal

pub front-n-requires : goal.front-n-requires
front-n-requires c =
    let rest = drop c.skip_spaces-start.result c.args.text.now in
    let all : take (length c.args.text.now - c.skip_spaces-start.result) rest ≡ rest = take_all _ rest (omega (arith, length-drop c.skip_spaces-start.result c.args.text.now)) in
    rw all (subst (λ x. skip x ≡ x) (sym c.skip_spaces-start.ensures.is) (skip_twice (drop c.args.at c.args.text.now)))

pub returns : goal.returns
returns c =
    let i = c.skip_spaces-start.result in
    let rest = drop i c.args.text.now in
    let all : take (length c.args.text.now - i) rest ≡ rest = take_all _ rest (omega (arith, length-drop i c.args.text.now)) in
    seen_behind c.skip_spaces-start.ensures.is
    (subst (λ r. Seen rest (tok_of c.front-n.result.0) r) (drop-drop c.front-n.result.1 i c.args.text.now) (subst (λ r. Seen r (tok_of c.front-n.result.0) (drop c.front-n.result.1 r)) all c.front-n.ensures.seen))

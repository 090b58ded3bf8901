use Rattle.std.proofs.Common.{rules, ◌≡◌, Err, arith}
use Rattle.tokens.proofs.Fronts.{stands_of}
use Rattle.formula.proofs.Whole.{taken, none, beyond, uncounted}
use Rattle.formula.proofs.count_lines.Goals as goal

pub returns-in_err-formula : goal.returns-in_err-formula
returns-in_err-formula c =
    let w : c.from_residual.result ≡ Err c.in_err-formula.field-0.0 = search rules in
    let h = c.in_err-formula.ensures.tells in
    uncounted c.args.marks.list.now c.args.text.now c.args.count _ _ w h.0 (none h.1)

pub returns-in_err-expect : goal.returns-in_err-expect
returns-in_err-expect c =
    let w : c.from_residual-in_err-expect.result ≡ Err c.in_err-expect.field-0.0 = search rules in
    let h = c.in_err-expect.ensures in
    uncounted c.args.marks.list.now c.args.text.now c.args.count _ _ w h.0 (beyond c.in_ok-formula.ensures.tells.0.1 h.1)

pub returns : goal.returns
returns c = let h = c.in_ok-formula.ensures.tells in (h.0.0, taken (omega arith) h.0.1 (stands_of tt c.in_ok-expect.ensures.0), h.0.2)

use Rattle.std.proofs.Common.{rules, ◌≡◌, Err, arith}
use Rattle.formula.proofs.Whole.{none, unwritten, written}
use Rattle.formula.proofs.write_lines.Goals as goal

pub returns-in_err-total : goal.returns-in_err-total
returns-in_err-total c =
    let w : c.from_residual.result ≡ Err c.in_err-total.field-0.0 = search rules in
    let h = c.in_err-total.ensures in
    unwritten c.args.marks.list.now c.args.text.now c.args.held c.args.words.now _ _ w h.0 h.1

pub returns-in_err-formula : goal.returns-in_err-formula
returns-in_err-formula c = let h = c.in_ok-total.ensures in absurd (none c.in_err-formula.ensures.tells.1 h.1.short h.0 h.1.spelled)

pub returns : goal.returns
returns c =
    let h = c.in_ok-total.ensures in
    let g = c.in_ok-formula.ensures.tells.0 in
    written c.args.held c.args.words.now h (omega arith) g (search rules)

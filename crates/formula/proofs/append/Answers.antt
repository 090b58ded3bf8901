use Rattle.std.proofs.Common.{refl, ◌∙◌, subst}
use borrow.Author.Tests.{both_ways}
use Rattle.formula.specs.Tells.{Written}
use Rattle.formula.proofs.Whole.{one_tree, settled}
use Rattle.formula.proofs.append.Goals as goal

pub returns-in_err-marks-clause-single : goal.returns-in_err-marks-clause-single
returns-in_err-marks-clause-single c = one_tree

pub returns-then-is_err-clause-single : goal.returns-then-is_err-clause-single
returns-then-is_err-clause-single c = one_tree

pub returns-else-is_err-clause-single : goal.returns-else-is_err-clause-single
returns-else-is_err-clause-single c = one_tree

pub returns-then-is_err-clause-outcome : goal.returns-then-is_err-clause-outcome
returns-then-is_err-clause-outcome c =
    let i = c.in_ok-marks.ensures in
    let w = c.write_lines-written.ensures in
    settled c.args.names.now c.args.text.now c.args.marks c.args.count c.min-held.result c.args.words.now c.write_lines-written.result c.write_lines-written.new.words c.clear.new.words
    i.1 c.min-held.ensures (subst (λ ns. Written ns c.args.text.now c.min-held.result c.args.words.now c.write_lines-written.result c.write_lines-written.new.words) i.0 w)
    (λ e. c.clear.ensures) (λ e. absurd (both_ways _ (c.is_err.ensures.value ∙ e) c.if-is_err.true))

pub returns-else-is_err-clause-outcome : goal.returns-else-is_err-clause-outcome
returns-else-is_err-clause-outcome c =
    let i = c.in_ok-marks.ensures in
    let w = c.write_lines-written.ensures in
    settled c.args.names.now c.args.text.now c.args.marks c.args.count c.min-held.result c.args.words.now c.write_lines-written.result c.write_lines-written.new.words c.write_lines-written.new.words
    i.1 c.min-held.ensures (subst (λ ns. Written ns c.args.text.now c.min-held.result c.args.words.now c.write_lines-written.result c.write_lines-written.new.words) i.0 w)
    (λ e. absurd (both_ways _ c.if-is_err.false (c.is_err.ensures.value ∙ e))) (λ e. refl)

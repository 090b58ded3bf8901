use Rattle.std.proofs.Common.{◌≡◌, get_or, take, below_more, sym, ◌∙◌, subst, arith}
use Rattle.std.proofs.lemmas.List.{get_or-take, length-take-le}
use Rattle.lines.specs.Word.{WellFormed}
use Rattle.sheet.proofs.LinesSettled.{wrong_word}
use Rattle.sheet.proofs.size.Size.check_lines.Goals as goal

pub loop-k-preserved : goal.loop-k-preserved
loop-k-preserved c =
    let k = c.loop-k.k in let size = length-take-le c.held.result c.args.words.now (omega (arith, c.held.ensures)) in
    let here : get_or (take c.held.result c.args.words.now) k 0 ≡ get_or c.args.words.now k 0 = get_or-take c.held.result c.args.words.now k 0 (omega (arith, size)) in
    below_more _ k c.loop-k.invariant (c.in_ok-read.field-0, c.in_ok-read.ensures.exact.0 ∙ here, c.in_ok-read.ensures.exact.1)

pub returns-in_err-read : goal.returns-in_err-read
returns-in_err-read c =
    let k = c.loop-k.k in let size = length-take-le c.held.result c.args.words.now (omega (arith, c.held.ensures)) in
    let here : get_or (take c.held.result c.args.words.now) k 0 ≡ get_or c.args.words.now k 0 = get_or-take c.held.result c.args.words.now k 0 (omega (arith, size)) in
    wrong_word c.args.self.marks _ c.args.words.now _ c.in_err-read.field-0.0 k c.from_residual.ensures.1 c.in_err-read.ensures.exact.0 (omega (arith, size, c.held.ensures))
    (λ w. c.in_err-read.ensures.exact.1 (subst (WellFormed k c.args.self.marks) (sym here) w))

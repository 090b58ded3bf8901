use Rattle.std.proofs.Common.{List, [], length}
use Rattle.lines.specs.declared.Line.{Line}
use Rattle.formula.specs.Tells.{held}
use Rattle.sheet.specs.declared.state.Refusal.TheVariants.{Line as BadLine}
use Rattle.sheet.specs.Lines.{Says}
use Rattle.sheet.specs.Sheet.{needs, accepts}
use Rattle.sheet.specs.Verdicts.{verdict_of}
use Rattle.sheet.proofs.Lent.{let_through}
use Rattle.sheet.proofs.LinesSettled.{lines_judged}
use Rattle.sheet.proofs.size.Size.check_settle.Goals as goal

pub returns : goal.returns
returns g c =
    let d = c.args.self in let ws = c.args.words.now in
    let_through (g.L.Scale.model c.args.logic.now) d.stages d.marks c.args.values (length ws)
    (needs ((ls : List Line) × Says d.marks (held d.lines) ws ls) BadLine (λ _. accepts [])) (verdict_of c.check_lines.result) c.in_ok-check_lent.ensures
    (lines_judged d.marks (held d.lines) ws (verdict_of c.check_lines.result) c.check_lines.ensures)

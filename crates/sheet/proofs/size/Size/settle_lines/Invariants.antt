use Rattle.formula.specs.Tells.{held}
use Rattle.sheet.specs.Filling.{Fills}
use Rattle.sheet.specs.Logics.{logic_of}
use Rattle.sheet.proofs.size.Size.settle_lines.Given as goal

-- the lines so far are settled
abbrev pub invariant-loop-k : goal.invariant-loop-k
invariant-loop-k g l = Fills (logic_of (g.L.Scale.model l.logic) (g.L.Logic.opposes l.logic) (g.L.Logic.partners l.logic)) l.self.stages l.self.marks (held l.self.lines) l.words l.initial.stretch l.k l.most l.stretch

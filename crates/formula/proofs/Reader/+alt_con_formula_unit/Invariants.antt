use Rattle.std.proofs.Common.{◌+◌, ◌*◌, length}
use Rattle.lines.specs.declared.Binary.TheVariants.{And, Or}
use Rattle.tokens.specs.Tokens.{tAnd, tOr}
use Rattle.formula.specs.Grammar.{unit, con, alt}
use Rattle.formula.specs.Tells.{unread, names, Last, Keeps}
use Rattle.formula.proofs.Turns.{Progress}
use Rattle.formula.proofs.Reader.+alt_con_formula_unit.Given as goal

abbrev pub decreases-formula : goal.decreases-formula
decreases-formula l = 4 * length (unread l.self.now) + 3

abbrev pub decreases-alt : goal.decreases-alt
decreases-alt l = 4 * length (unread l.self.now) + 2

abbrev pub decreases-con : goal.decreases-con
decreases-con l = 4 * length (unread l.self.now) + 1

abbrev pub decreases-unit : goal.decreases-unit
decreases-unit l = 4 * length (unread l.self.now)

-- the list has come to a tree, whose last line is `left`
abbrev pub invariant-alt-more : goal.invariant-alt-more
invariant-alt-more l = record {
  progress : Progress (names l.fn.self) alt con tOr Or (unread l.fn.self) l.fn.out.words.now l.fn.out.count (unread l.self) l.out.words.now l.out.count;
  last : Last l.out.count l.left;
  keeps : Keeps l.fn.self l.fn.out l.self l.out;
}

abbrev pub decreases-alt-more : goal.decreases-alt-more
decreases-alt-more l = length (unread l.self)

abbrev pub invariant-con-more : goal.invariant-con-more
invariant-con-more l = record {
  progress : Progress (names l.fn.self) con unit tAnd And (unread l.fn.self) l.fn.out.words.now l.fn.out.count (unread l.self) l.out.words.now l.out.count;
  last : Last l.out.count l.left;
  keeps : Keeps l.fn.self l.fn.out l.self l.out;
}

abbrev pub decreases-con-more : goal.decreases-con-more
decreases-con-more l = length (unread l.self)

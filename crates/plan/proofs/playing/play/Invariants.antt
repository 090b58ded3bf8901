use Rattle.std.proofs.Common.{◌≡◌, ◌+◌, ◌≤◌, length}
use Rattle.sheet.specs.Logics.{logic_of}
use Rattle.plan.specs.Phases.{sheet_in}
use Rattle.plan.proofs.Plays.{SoFar}
use Rattle.plan.proofs.playing.play.Given as goal

-- whatever the words that are left come to, all of them come to; of a `rest`, .0 are the words, .1.0 is the number of the
-- first, and .1.1.0 says whether bytes follow the last
abbrev pub invariant-words : goal.invariant-words
invariant-words g l =
    (l.rest.1.0 + length l.rest.0.now ≤ 8192)
    × (l.rest.1.1.0 ≡ l.initial.rest.1.1.0)
    × SoFar (logic_of (g.L.Scale.model l.logic) (g.L.Logic.opposes l.logic) (g.L.Logic.partners l.logic)) l.initial.rest.1.1.0
    (sheet_in l.initial.phase l.initial.desk.stretch.items l.initial.desk.lines) l.initial.rest.1.0 l.initial.rest.0.now l.initial.desk.outputs.items
    (sheet_in l.phase l.desk.stretch.items l.desk.lines) l.rest.1.0 l.rest.0.now l.desk.outputs.items

abbrev pub decreases-words : goal.decreases-words
decreases-words g l = length l.rest.0.now

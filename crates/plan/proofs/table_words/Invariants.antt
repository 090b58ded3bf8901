use Rattle.std.proofs.Common.{◌≡◌, ℕ, ◌<◌, Some, get_or}
use Rattle.words.specs.declared.kind.Kind.TheVariants.{Table}
use Rattle.words.specs.Kinds.{kind_of}
use Rattle.plan.proofs.table_words.Given as goal

abbrev pub invariant-loop-i : goal.invariant-loop-i
invariant-loop-i l = (k : ℕ) → k < l.i → kind_of (get_or l.words k 0) ≡ Some Table

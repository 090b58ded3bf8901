use Rattle.std.proofs.Common.{◌≡◌, ◌++◌, length, vec_items}
use Rattle.table.specs.Bytes.{whole_words}
use Rattle.table.proofs.bytes.words_of.Given as goal

abbrev pub invariant-words : goal.invariant-words
invariant-words l = vec_items l.words ++ whole_words l.rest ≡ whole_words l.bytes

abbrev pub decreases-words : goal.decreases-words
decreases-words l = length l.rest

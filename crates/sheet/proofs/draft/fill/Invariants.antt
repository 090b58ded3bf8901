use Rattle.std.proofs.Common.{◌≡◌, take, replicate}
use Rattle.sheet.proofs.draft.fill.Given as goal

abbrev pub invariant-loop-entry : goal.invariant-loop-entry
invariant-loop-entry g l = take l.entry-index l.row ≡ replicate l.entry-index l.v

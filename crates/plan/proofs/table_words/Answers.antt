use Rattle.std.proofs.Common.{Some, sym, ap, ◌∙◌, below_more}
use Rattle.plan.proofs.table_words.Goals as goal

pub loop-i-preserved : goal.loop-i-preserved
loop-i-preserved c = below_more _ _ c.loop-i.invariant (sym c.of.ensures ∙ (c.in-Some-Table.is ∙ ap (λ k. Some k) c.in-Some-Table.field-0-is))

use Rattle.std.proofs.Common.{◌≡◌, [], ◌∷◌, ◌++◌, length, replicate, sym, ap, ◌∙◌, arith}
use Rattle.std.proofs.lemmas.List.{take_more_set, take_all, replicate_more}
use Rattle.sheet.proofs.draft.fill.Goals as goal

pub loop-entry-preserved : goal.loop-entry-preserved
loop-entry-preserved g c =
    take_more_set c.loop-entry.row c.loop-entry.entry-index c.args.v (omega arith)
    ∙ ap (λ l. l ++ (c.args.v ∷ [])) c.loop-entry.invariant ∙ replicate_more c.loop-entry.entry-index c.args.v

pub returns : goal.returns
returns g c =
    let at : c.loop-entry.entry-index ≡ length c.args.row.now = omega arith in
    sym (take_all c.loop-entry.entry-index c.loop-entry.row (omega arith)) ∙ c.loop-entry.invariant ∙ ap (λ k. replicate k c.args.v) at

use Rattle.std.proofs.Common.{◌≡◌, ap, ◌∙◌, arith}
use Rattle.std.specs.List.{slice_get}
use Rattle.std.proofs.lemmas.Grind.{common_steps}
use Rattle.std.proofs.lemmas.Option.{gets}
use Rattle.orders.specs.Orders.{under, listed, cut_count_of}
use Rattle.table.specs.Cuts.{cut_entry, cuts_of}
use Rattle.table.proofs.Places.{listed_at}
use Rattle.table.proofs.Table.cut_at.Goals as goal

pub returns : goal.returns
unfolding cuts_of
returns c =
    let s = c.args.self.now in
    let le = under s.rows in
    let found : c.copied.result ≡ slice_get c.deref.result.now c.args.j = grind (arith, common_steps, gets) in
    found
    ∙ ap (λ xs. slice_get xs c.args.j) (c.deref.ensures.0 ∙ s.cut)
    ∙ listed_at (cut_entry s.count le (listed s.opposites)) (cut_count_of s.count le) c.args.j

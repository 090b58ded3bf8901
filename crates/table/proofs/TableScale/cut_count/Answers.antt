use Rattle.std.proofs.Common.{length, ap, ◌∙◌}
use Rattle.std.proofs.lemmas.List.FromFn.{length-map-range_with_len}
use Rattle.orders.specs.Orders.{under, listed, cut_count_of}
use Rattle.table.specs.Cuts.{cut_entry, cuts_of}
use Rattle.table.proofs.TableScale.cut_count.Goals as goal

pub returns : goal.returns
unfolding cuts_of
returns c =
    let s = c.args.self.now in
    c.len.ensures.value ∙ ap length s.cut ∙ length-map-range_with_len (cut_entry s.count (under s.rows) (listed s.opposites)) 0 (cut_count_of s.count (under s.rows))

use Rattle.std.proofs.Common.{◌≡◌, ℕ, get_or, tests, rules}
use Rattle.std.proofs.lemmas.List.FromFn.{fill_by_all}
use Rattle.orders.specs.Words.{opposite_of, opposites_of}
use Rattle.orders.proofs.Ranges.{entries_from_fn}
use Rattle.orders.proofs.words.read_opposites.Goals as goal

pub returns : goal.returns
unfolding opposites_of
returns c =
    let f : ℕ → ℕ = λ k. opposite_of (get_or c.args.words.now k 0) in
    fill_by_all f c.from_fn.result 16 0 c.from_fn.ensures.items.long (entries_from_fn (λ k y. y ≡ f k) c.from_fn.result 0 16 c.from_fn.ensures.items (λ k y q l w. search (rules, tests)))

-- The cuts of a relation on the numbers below n, as a table keeps them.
use Rattle.std.specs.Prelude.{ℕ, ◌%◌, Bool, List, map, ◌==◌, position}
use Rattle.std.specs.List.{range_with_len}
use Rattle.std.specs.Option.{unwrap_or}
use Rattle.orders.specs.Orders.{cut_count_of, cut_of, ceiling_of, partner_of}
use Rattle.table.specs.declared.cuts.Cut.{Cut}

-- the join-irreducible values in the order of their numbers
unfoldable pub irreducibles_of : ℕ → (ℕ → ℕ → Bool) → List ℕ
irreducibles_of n le = map (cut_of n le) (range_with_len 0 (cut_count_of n le))

module _ (n : ℕ) (le : ℕ → ℕ → Bool) (opposite : ℕ → ℕ) where
  -- the cut with a value, where these are the values of the cuts
  abbrev pub cut_from : List ℕ → ℕ → Cut
  cut_from values c =
      record { value = c; ceiling = ceiling_of n le (c % 16); partner = unwrap_or (position (λ v. v == opposite (ceiling_of n le (c % 16))) values) 0 }

  -- cut j
  abbrev pub cut_entry : ℕ → Cut
  cut_entry j = record { value = cut_of n le j; ceiling = ceiling_of n le (cut_of n le j); partner = partner_of n le opposite j }

  unfoldable pub cuts_of : List Cut
  cuts_of = map cut_entry (range_with_len 0 (cut_count_of n le))

-- The words that a table is loaded from: one for each value, in the order of their numbers.
use Rattle.std.specs.Prelude.{ℕ, ◌/◌, ◌%◌, ◌^◌, Bool, cond, ◌&&◌, List, [], ◌∷◌, map, length, Ok, Err, Result, ◌==◌, nat_le, nat_lt, slice_index}
use Rattle.std.specs.List.{range_with_len}
use Rattle.scale.specs.declared.Refusal.{Refusal}
use Rattle.scale.specs.declared.Refusal.TheVariants.{Order, Lattice, Distribution, Opposite}
use Rattle.orders.specs.Finite.{every}
use Rattle.orders.specs.Orders.{under, ordered, latticed, spread, opposing, listed}

-- bits 15 to 0: the set of the values at or below this one
abbrev pub row_of : ℕ → ℕ
row_of word = word % 2 ^ 16

-- bits 19 to 16: the number of this value's opposite
abbrev pub opposite_of : ℕ → ℕ
opposite_of word = word / 2 ^ 16 % 2 ^ 4

-- bits 31 to 28 are 6, bits 27 to 20 are zero, and the row is below `limit`
abbrev pub laid_out : ℕ → ℕ → Bool
laid_out limit word = (word / 2 ^ 28 == 6 && word / 2 ^ 20 % 2 ^ 8 == 0) && nat_lt (row_of word) limit

-- There are 2 to 16 words, and each is laid out as one of so many: its row has no bit at or past their count.
unfoldable pub readable : List ℕ → Bool
readable words = (nat_le 2 (length words) && nat_le (length words) 16) && every (length words) (λ k. laid_out (2 ^ length words) (slice_index words k))

-- The 16 rows and opposites; those past the count are 0.
unfoldable pub rows_of : List ℕ → List ℕ
rows_of words = map (λ k. row_of (slice_index words k)) (range_with_len 0 16)

unfoldable pub opposites_of : List ℕ → List ℕ
opposites_of words = map (λ k. opposite_of (slice_index words k)) (range_with_len 0 16)

-- The refusal of the first test that fails, if one does.
abbrev pub first_failing : List (Bool × Refusal) → Result (Unit {0}) Refusal
first_failing [] = Ok tt
first_failing (x ∷ xs) = cond x.0 (first_failing xs) (Err x.1)

-- The laws, in the order in which they are tried.
unfoldable pub law_verdict : ℕ → List ℕ → List ℕ → Result (Unit {0}) Refusal
law_verdict n rows opposites =
    first_failing
    ((ordered n (under rows), Order)
    ∷ (latticed n (under rows), Lattice)
    ∷ (spread n (under rows), Distribution)
    ∷ (opposing n (under rows) (listed opposites), Opposite)
    ∷ [])

-- What loading the words answers.
unfoldable pub verdict : List ℕ → Result (Unit {0}) Refusal
verdict words = cond (readable words) (law_verdict (length words) (rows_of words) (opposites_of words)) (Err Order)

-- What readable words say.
use Rattle.std.proofs.Common.{◌≡◌, ℕ, ◌^◌, ◌<◌, ◌≤◌, true, ◌&&◌, leb, List, map, length, get_or, inl, inr, arith}
use Rattle.std.specs.List.{range_with_len}
use Rattle.std.proofs.lemmas.Bool.{and_parts, leb-true, cases_lt}
use Rattle.std.proofs.lemmas.List.{get_or_past}
use Rattle.std.proofs.lemmas.List.FromFn.{get_or-map-range_with_len, length-map-range_with_len}
use Rattle.orders.specs.Finite.{every}
use Rattle.orders.specs.Words.{opposite_of, laid_out, readable, opposites_of}

pub readable_count : (words : List ℕ) → readable words ≡ true → (2 ≤ length words) × (length words ≤ 16)
unfolding readable
readable_count words e =
    let n = length words in
    let p = and_parts (leb 2 n && leb n 16) (every n (λ k. laid_out (2 ^ n) (get_or words k 0))) e in
    let q = and_parts (leb 2 n) (leb n 16) p.0 in
    (leb-true 2 n q.0, leb-true n 16 q.1)

pub opposites_small : (words : List ℕ) (k : ℕ) → get_or (opposites_of words) k 0 < 16
unfolding opposites_of
opposites_small words k =
    let f : ℕ → ℕ = λ k. opposite_of (get_or words k 0) in
    elim (cases_lt k 16) [
      | inl h ↦ omega (arith, get_or-map-range_with_len f 0 16 k k 0 h (omega arith))
      | inr h ↦ omega (arith, get_or_past (map f (range_with_len 0 16)) k 0 (omega (arith, length-map-range_with_len f 0 16)))
    ]
